-- Pages that bitmaps may have.
use Rattle.std.proofs.Common.{◌≡◌, ◌*◌, true, arith}
use Rattle.press_units.specs.declared.position.Resolution.{Resolution}
use Rattle.press_bits.specs.Page.{is_page_size}
use Rattle.press_page.specs.PageSetup.{physical_page, dimensions_of, scale}
use Rattle.press_page.specs.declared.media.PageSize.{PageSize}
use Rattle.press_page.specs.declared.media.PageSetup.{PageSetup}

-- each page size is one that a bitmap may have, at each resolution
size_fits : (size : PageSize) (resolution : Resolution)
    → is_page_size ((dimensions_of size).width * scale resolution) ((dimensions_of size).height * scale resolution) ≡ true
size_fits size resolution = grind arith

pub media_fits : (page_setup : PageSetup) → is_page_size (physical_page page_setup).width (physical_page page_setup).height ≡ true
media_fits page_setup = size_fits page_setup.size page_setup.resolution
