-- Why no bitmap was read, where no blank one was made. No public clause cites this.
use Rattle.press_bits.specs.declared.fault.BlankError.{BlankError}
use Rattle.press_bits.specs.declared.fault.BlankError.TheVariants as blank
use Rattle.press_pbm.specs.declared.fault.ReadPbmError.{ReadPbmError}
use Rattle.press_pbm.specs.declared.fault.ReadPbmError.TheVariants.{BadSize, NoMemory}

abbrev pub refusal_of : BlankError → ReadPbmError
refusal_of blank.BadSize = BadSize
refusal_of blank.NoMemory = NoMemory
