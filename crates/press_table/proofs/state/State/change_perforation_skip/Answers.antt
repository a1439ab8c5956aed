use Rattle.std.proofs.Common.{◌≡◌, ◌≢◌, true, Bool, Option, is_some, arith}
use Rattle.press_page.specs.Environment.{changed_by, with_skip}
use Rattle.press_page.specs.declared.environment.PageEnv.{PageEnv}
use Rattle.press_table.proofs.state.State.change_perforation_skip.Goals as goal

-- a flag that is another than before was asked for
asked-if : (asked : Option Bool) (env : PageEnv) → (changed_by asked with_skip env).settings.perforation_skip ≢ env.settings.perforation_skip → is_some asked ≡ true
asked-if asked env other = grind arith

pub returns-then-self-top : goal.returns-then-self-top
returns-then-self-top c = grind (arith, asked-if)
