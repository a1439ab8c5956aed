-- What a reader or a writer that fails at one call shows.
use Rattle.std.specs.Prelude.{ℕ, zero, suc, Option, None, Some}
use Rattle.press_pbm.specs.declared.fuse_read.FuseRead.{FuseRead}
use Rattle.press_pbm.specs.declared.fuse_write.FuseWrite.{FuseWrite}

-- how many calls it makes before the one that fails, if that one is still to come
abbrev pub reads_left : {R : Type 0} → FuseRead R → Option ℕ
reads_left fuse = fuse.calls_left

-- the other reader
abbrev pub reader_of : {R : Type 0} → FuseRead R → R
reader_of fuse = fuse.reader

-- the same of a writer
abbrev pub writes_left : {W : Type 0} → FuseWrite W → Option ℕ
writes_left fuse = fuse.calls_left

abbrev pub writer_of : {W : Type 0} → FuseWrite W → W
writer_of fuse = fuse.writer

-- the calls left after one more
abbrev pub burned : Option ℕ → Option ℕ
burned None = None
burned (Some zero) = None
burned (Some (suc calls)) = Some calls
