-- What the rows of a queue, and what follows for the works, make of each number.
use Rattle.std.proofs.Common.{◌≡◌, ◌+◌, ℕ, nat_le, nat_eq, cond, Bool, true, false, List, Option, Some, None, is_some}
use Rattle.std.proofs.Common.{◌⊎◌, inl, inr, refl, sym, ap, subst, ◌∙◌, arith, rules, true≢false}
use Rattle.std.specs.Map.{lookup}
use Rattle.std.proofs.lemmas.Bool.{eqb-true}
use Rattle.press_bits.specs.Page.{Page}
use Rattle.press_queue.specs.declared.command.EntryCommand.{EntryCommand}
use Rattle.press_queue.specs.declared.entry.Entry.{Entry}
use Rattle.press_queue.specs.Entries.{entry_numbered, place_of, put}
use Rattle.press_queue.specs.Rows as rows
use Rattle.press_queue.specs.State.{QueueState}
use Rattle.press_queue.specs.Status.{new_entry}
use Rattle.press_ticket.specs.Ticket.{JobTicket}
use Rattle.press_core.specs.Work.{IsPrintable, Work, new_work, without_job}
use Rattle.press_core.specs.World.{Consequence, NothingElse, OffEngine, GivenUp, Forgotten, World, consequence, engines_after, with_new_work, with_queue, without_gone, works_after}
use Rattle.press_core.proofs.AbortLemmas.{aborted_entry}
use Rattle.press_core.proofs.CommandLemmas.{Became, Follows, fewer}
use Rattle.press_core.proofs.CommandLemmas as core
use Rattle.press_core.proofs.EntryLemmas.{SetsOne, added_lookup, inserted_lookup, kept_lookup, other_lookup, own_lookup, set_lookup}
use Rattle.press_core.proofs.SoundLemmas.{flushed, kept_work}
use Rattle.press_core.proofs.WorkLemmas.{without_job_is}
use Rattle.press_history.proofs.Standings.{AreProper, Aborts, Change, Done, Enters, GoesOn, IsIdle, IsWhole, Leaves, Standing, Stays}
use Rattle.press_history.proofs.Standings.{idle, listed, listed_in, no_steps, nothing, standing, stands, unlisted}

-- ---- one number

-- What happens to each number, where what stands under one is another.
pub one-changes : (number : ℕ) (old new : World) (entry : Option Entry) (work : Option Work) (done : ℕ → Done) (own : Done) → done number ≡ own
    → SetsOne number entry old.queue.entries new.queue.entries → SetsOne number work old.works new.works
    → ((n : ℕ) → nat_eq number n ≡ false → (nat_le n new.queue.last ≡ nat_le n old.queue.last) × IsIdle (done n))
    → (standing number new ≡ stands (nat_le number new.queue.last) entry work → Change own (standing number old) (standing number new))
    → (n : ℕ) → Change (done n) (standing n old) (standing n new)
one-changes number old new entry work done own own_is entries works others changes n = at (nat_eq number n) refl
  where
    at : (b : Bool) → nat_eq number n ≡ b → Change (done n) (standing n old) (standing n new)
    at true same =
        subst (λ m. Change (done m) (standing m old) (standing m new)) (eqb-true number n same)
        (subst (λ d. Change d (standing number old) (standing number new)) (sym own_is)
        (changes (λ j. stands (nat_le number new.queue.last)
        (own_lookup number entry old.queue.entries new.queue.entries entries j) (own_lookup number work old.works new.works works j))))
    at false apart =
        let rest = others n apart in
        Stays (λ j. stands (rest.0 j) (other_lookup number entry old.queue.entries new.queue.entries entries n apart j)
        (other_lookup number work old.works new.works works n apart j)) rest.1

-- ---- entries that leave the list

gone-one : (given : Bool) (o q : Option Entry) (p : Option Work) → AreProper given o p → (q ≡ None) ⊎ (q ≡ o)
    → Change (nothing None) (stands given o p) (stands given q (cond (is_some q) p None))
gone-one given (Some e) q (Some w) proper (inl none) =
    Leaves e w (λ j. stands (proper.0 j) (Some e) (Some w)) (λ j. stands (proper.0 j) (none j) (cond (is_some (none j)) (Some w) None)) (idle None)
gone-one given (Some e) q (Some w) proper (inr same) = Stays (λ j. stands given (same j) (cond (is_some (same j)) (Some w) None)) (idle None)
gone-one given None q None proper (inl none) = Stays (λ j. stands given (none j) (cond (is_some (none j)) None None)) (idle None)
gone-one given None q None proper (inr none) = Stays (λ j. stands given (none j) (cond (is_some (none j)) None None)) (idle None)
gone-one given (Some e) q None proper less = absurd proper
gone-one given None q (Some w) proper less = absurd proper

-- where fewer are listed, with what they were, the works of the others go
gone-changes : (world : World) (new : QueueState) → IsWhole world → new.last ≡ world.queue.last
    → ((n : ℕ) → (entry_numbered n new.entries ≡ None) ⊎ (entry_numbered n new.entries ≡ entry_numbered n world.queue.entries))
    → (n : ℕ) → Change (nothing None) (standing n world) (standing n (without_gone (with_queue new world)))
gone-changes world new whole last less n =
    subst (λ s. Change (nothing None) (standing n world) s) (λ j. stands (nat_le n (sym last j)) (entry_numbered n new.entries) (sym (kept_work new world.works n) j))
    (gone-one (nat_le n world.queue.last) (entry_numbered n world.queue.entries) (entry_numbered n new.entries) (lookup (nat_eq n) world.works) (whole.proper n) (less n))

pub flush-changes : (world : World) → IsWhole world → (n : ℕ) → Change (nothing None) (standing n world) (standing n (without_gone (with_queue (rows.flush world.queue) world)))
flush-changes world whole = gone-changes world (rows.flush world.queue) whole refl (flushed world.queue whole.queue.distinct)

-- ---- commands to one entry

module _ (number : ℕ) (world : World) (new : QueueState) (whole : IsWhole world) (last : new.last ≡ world.queue.last) where
  -- the world with this queue, and these works and engines
  abbrev behind : List (ℕ × Work) → List (Option ℕ) → World
  behind works engines = record world { queue = new; works = works; engines = engines }

  -- one entry and its work change
  entry-changes : (was is : Entry) (left : Work → Work) (works : List (ℕ × Work)) (engines : List (Option ℕ)) → entry_numbered number world.queue.entries ≡ Some was
      → SetsOne number (Some is) world.queue.entries new.entries
      → ((work : Work) → lookup (nat_eq number) world.works ≡ Some work → SetsOne number (Some (left work)) world.works works)
      → ((work : Work) (before after : Standing) → before ≡ listed was work → after ≡ listed is (left work) → Change (nothing None) before after)
      → (n : ℕ) → Change (nothing None) (standing n world) (standing n (behind works engines))
  entry-changes was is left works engines there entries sets change =
      let before = listed_in number world was whole there in
      one-changes number world (behind works engines) (Some is) (Some (left before.0)) (λ n. nothing None) (nothing None) refl entries
      (sets before.0 (ap (λ (s : Standing). s.work) before.1)) (λ n apart. (ap (nat_le n) last, idle None))
      (λ now. change before.0 (standing number world) (standing number (behind works engines)) before.1
      (now ∙ (λ j. stands ((ap (nat_le number) last ∙ ap (λ (s : Standing). s.given) before.1) j) (Some is) (Some (left before.0)))))

  -- an entry stands for another
  entry-moves : (was is : Entry) (engines : List (Option ℕ)) → entry_numbered number world.queue.entries ≡ Some was → SetsOne number (Some is) world.queue.entries new.entries
      → core.Stands was is → (n : ℕ) → Change (nothing None) (standing n world) (standing n (behind world.works engines))
  entry-moves was is engines there entries may =
      entry-changes was is (λ work. work) world.works engines there entries
      (λ work here. kept_lookup number (Some work) world.works here)
      (λ work before after was_is is_now.
      let none = no_steps work None in
      GoesOn was is work work.progress none.0
      (record {
        was_open = may.was;
        is_open = may.is;
        runs = λ runs. absurd (true≢false (sym runs ∙ may.still));
        begun = λ e. may.begun ∙ e;
        unbegun = λ e. (sym may.begun ∙ e, refl);
        place = omega arith;
        well = refl;
      })
      none.1 was_is is_now)

  -- a command that was carried out, and what follows of it
  pub commanded-changes : (command : EntryCommand) → Became command number world.queue new
      → (n : ℕ) → Change (nothing None) (standing n world) (standing n (behind (works_after (consequence command) number new world.works) (engines_after (consequence command) number world.engines)))
  commanded-changes command it = by (consequence command) it.now it.follows it.set
    where
      by : (what : Consequence) (now : Option Entry) → Follows what it.entry now → SetsOne number now world.queue.entries new.entries
          → (n : ℕ) → Change (nothing None) (standing n world) (standing n (behind (works_after what number new world.works) (engines_after what number world.engines)))
      by NothingElse (Some is) f set = entry-moves it.entry is world.engines it.there set f.0
      by OffEngine (Some is) f set = entry-moves it.entry is (engines_after OffEngine number world.engines) it.there set f
      by GivenUp (Some is) f set =
          entry-changes it.entry (aborted_entry it.entry) without_job (works_after GivenUp number new world.works) (engines_after GivenUp number world.engines)
          it.there (subst (λ e. SetsOne number (Some e) world.queue.entries new.entries) f.0 set)
          (λ work here n. ap (λ ws. lookup (nat_eq n) ws) (without_job_is number world.works work here) ∙ set_lookup number world.works (without_job work) (ap is_some here) n)
          (λ work before after was_is is_now.
          let none = no_steps work None in
          Aborts it.entry it.entry.begun work none.0 f.1 none.1 (λ e. (e, refl)) was_is is_now)
      by Forgotten None f set = gone-changes world new whole last (λ n. fewer number n _ _ (set n))
      by NothingElse None f set = absurd f
      by OffEngine None f set = absurd f
      by GivenUp None f set = absurd f
      by Forgotten (Some is) f set = absurd f

-- ---- an entry that enters

pub enters-changes : (world : World) (number priority : ℕ) (ticket : JobTicket) (images : List Page) → IsWhole world → number ≡ world.queue.last + 1 → IsPrintable ticket images → (n : ℕ)
    → Change (nothing (Some (ticket, images))) (standing n world)
    (standing n (with_new_work number (new_work ticket images) (with_queue (record world.queue { entries = put number (new_entry priority) world.queue.entries; last = number }) world)))
enters-changes world number priority ticket images whole next printable =
    one-changes number world after (Some (new_entry priority)) (Some (new_work ticket images)) (λ n. nothing submits) (nothing submits) refl
    (inserted_lookup (place_of priority world.queue.entries) number world.queue.entries (new_entry priority) fresh.0)
    (added_lookup number world.works (new_work ticket images) fresh.1)
    (λ n apart. (beyond n apart, idle submits))
    (λ now. Enters priority ticket images refl printable (λ j. stands (above j) (fresh.0 j) (fresh.1 j))
    (now ∙ (λ j. stands (own j) (Some (new_entry priority)) (Some (new_work ticket images)))) (idle submits))
  where
    submits : Option (JobTicket × List Page)
    submits = Some (ticket, images)

    after : World
    after = with_new_work number (new_work ticket images) (with_queue (record world.queue { entries = put number (new_entry priority) world.queue.entries; last = number }) world)

    above : nat_le number world.queue.last ≡ false
    above = grind (arith, rules, next)

    own : nat_le number number ≡ true
    own = grind (arith, rules)

    beyond : (n : ℕ) → nat_eq number n ≡ false → nat_le n number ≡ nat_le n world.queue.last
    beyond n apart = grind (arith, rules, apart, next)

    fresh : (entry_numbered number world.queue.entries ≡ None) × (lookup (nat_eq number) world.works ≡ None)
    fresh = unlisted number world whole above
