-- Blank pages.
use Rattle.press_bits.specs.Page.{Page, blank}
use Rattle.press_page.specs.PageSetup.{physical_page}
use Rattle.press_page.specs.declared.media.PageSetup.{PageSetup}

-- the blank physical page of the media
abbrev pub blank_page : PageSetup → Page
blank_page page_setup = let page = physical_page page_setup in blank page.width page.height
