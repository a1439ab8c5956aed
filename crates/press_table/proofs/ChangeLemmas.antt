-- Rows that change the page: what the page environment answers, and what a value names there.
use Rattle.std.proofs.Common.{◌≡◌, true, Option, Some, sym, ap, arith}
use Rattle.std.specs.Prelude.{option_map}
use Rattle.press_page.specs.Environment.{changed_by, closes_page, with_page_size}
use Rattle.press_page.specs.declared.environment.PageEnv.{PageEnv}
use Rattle.press_page.specs.declared.media.PageSize.{PageSize}
use Rattle.press_table.specs.declared.effect.EjectCause.{EjectCause}
use Rattle.press_table.specs.declared.state.State.{State}
use Rattle.press_table.specs.Closing.{close_if_marked, close_if_asked}

-- a size that a value asks for is that of the environment that it sets
pub size_asked : (asked : Option PageSize) (env : PageEnv) → closes_page asked ≡ true → asked ≡ Some (changed_by asked with_page_size env).page_setup.size
size_asked asked env closes = grind arith

-- what is asked for is what changes
pub changes_asked : {Asked : Type 0} (cause : Asked → EjectCause) (asked : Option Asked) (named : Asked) (state : State)
    → asked ≡ Some named → close_if_marked (cause named) state ≡ close_if_asked (option_map cause asked) state
changes_asked cause asked named state is = sym (ap (λ asked. close_if_asked (option_map cause asked) state) is)
