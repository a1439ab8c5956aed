use Rattle.std.proofs.Common.{◌≡◌, Ok, true, codes, refl, arith}
use Rattle.serde_json.specs.Find.{as_bool}
use Rattle.serde_json.specs.View.{view}
use Rattle.press_units.specs.declared.position.Resolution.TheVariants.{Dpi300}
use Rattle.press_ticket.specs.declared.media.Media.TheVariants.{Letter}
use Rattle.press_ticket.specs.declared.media.Sides.TheVariants.{OneSidedFront}
use Rattle.press_ticket.specs.Members.{as_media, as_sides, as_resolution}
use Rattle.press_ticket.specs.Reading.{optional_member}
use Rattle.press_ticket.proofs.parts.optional_of.Goals as goal

pub returns-clause-ok : goal.returns-clause-ok
returns-clause-ok c =
    let value = view c.args.value.now in
    let media : optional_member (codes "Media") as_media Letter value ≡ Ok c.in_ok-media.media = grind arith in
    let sides : optional_member (codes "Sides") as_sides OneSidedFront value ≡ Ok c.in_ok-sides.sides = grind arith in
    let collate : optional_member (codes "Collate") as_bool true value ≡ Ok c.in_ok-collate.collate = grind arith in
    let resolution : optional_member (codes "Resolution") as_resolution Dpi300 value ≡ Ok c.in_ok-resolution.resolution = grind arith in
    rw (c.in_ok-run_list.ensures.ok, media, sides, collate, resolution) refl
