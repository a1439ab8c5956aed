use Rattle.std.proofs.Common.{◌≡◌, ◌/◌, ◌<◌, arith, pos, ◌+ℤ◌, w64}
use Rattle.std.proofs.lemmas.Int.{to_z-of_z}
use Rattle.press_bits.proofs.BandLemmas.{height-page_of_bands, ready_of, band_ready, in_run, of_run, line_of, line_inside}
use Rattle.press_bits.proofs.bands.Bands.are_ready.Goals as goal

pub returns-then-run-eq0 : goal.returns-then-run-eq0
returns-then-run-eq0 c = grind (arith, height-page_of_bands, pos, to_z-of_z, w64, in_run)

pub returns : goal.returns
returns c = (
  λ yes n from before high.
      let run = c.run_within-run.result in
      let place : pos run.first ≡ c.args.y +ℤ pos run.skip = grind (arith, to_z-of_z, w64) in
      let inside : n < c.self.inside.height = grind (arith, height-page_of_bands) in
      let within = in_run c.args.y run.first run.skip c.args.lines run.count c.self.inside.height n place c.run_within-run.ensures.first c.run_within-run.ensures.count from before inside in
      grind (arith, ready_of, c.are_there.ensures.0 yes (n / 64) (omega (arith, within.0)) (omega (arith, within.1))),
  λ ready. c.are_there.ensures.1 (λ k from before.
      let run = c.run_within-run.result in
      let place : pos run.first ≡ c.args.y +ℤ pos run.skip = grind (arith, to_z-of_z, w64) in
      let inside = line_inside k run.first run.count (omega arith) from (omega (arith, before)) in
      let at = of_run c.args.y run.first run.skip c.args.lines run.count c.self.inside.height (line_of k run.first) place c.run_within-run.ensures.count inside.0 inside.1 in
      let high : line_of k run.first < c.args.self.now.page.height = grind (arith, height-page_of_bands, inside.1) in
      grind (
        arith,
        inside.2,
        band_ready c.self.inside.width c.self.inside.height c.self.inside.bands.items c.args.self.now (line_of k run.first) c.self.view_is (ready (line_of k run.first) at.0 at.1 high),
      )),
)
