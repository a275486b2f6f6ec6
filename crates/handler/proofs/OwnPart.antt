-- A message's own part, whatever its kind: who rests after it, and what its reports say.
-- Assumes nothing.
use Prim.Native.Nat.{ℕ, ◌≤◌}
use mathlib.Core.Path.{◌≡◌}
use mathlib.Core.Bool.{true}
use mathlib.Core.List.{List}
use native.Mathlib.Omega.{arith}
use Rattle.kinds.specs.Kinds.{enters, cancels_entry, cancels_quote, sets_phase}
use Rattle.lists.specs.Tests.{All}
use Rattle.lists.specs.Run.{Ran, and_then}
use Rattle.lists.proofs.Bools.{cond_either}
use Rattle.packing.specs.declared.report.Report.{Report}
use Rattle.packing.specs.declared.report.Report.TheVariants.{Noted}
use Rattle.book.specs.declared.Entry.{Entry}
use Rattle.book.specs.Entries.{lessened}
use Rattle.book.specs.Look.{entry_of, quote_in}
use Rattle.telling.specs.Tell.{cancelled}
use Rattle.terms.specs.declared.Terms.{Terms}
use Rattle.arrival.specs.Cancel.{cancel_entry, cancel_quote, sweep}
use Rattle.arrival.specs.Post.{prices_of, as_posted}
use Rattle.arrival.specs.Arrive.{reported, arrived}
use Rattle.arrival.proofs.CutLaws.{cut_all, quote-all}
use Rattle.arrival.proofs.SweepLaws.{sweep-all}
use Rattle.arrival.proofs.Afterwards.{arrived-rests, cut-says, sweep-says}
use Rattle.handler.specs.declared.Ask.{Ask}
use Rattle.handler.specs.Accept.{comer, own_part}

module _ (t : Terms) (a : Ask) (l : List Entry) where
  -- what rested before, perhaps with fewer contracts, and the arriving entry, at its prices before some book
  pub own-rests : (P : Entry → Type 0) → ((q : ℕ) (x : Entry) → P x → P (lessened q x))
      → (enters a.kind ≡ true → (left : ℕ) (r : List Entry) → P (as_posted (comer t.given a) left (prices_of t (comer t.given a) r)))
      → All P l → All P (own_part t a l).final
  unfolding own_part
  own-rests P lessens posts h =
      cond_either Rested (enters a.kind) (arrived t (comer t.given a) l) _
      (λ q. arrived-rests t (comer t.given a) l P (λ n x k p. lessens n x p) (posts q) h)
      (λ _. cond_either Rested (cancels_entry a.kind) (cancel_entry a.party a.entry l) _ (λ _. cut_all 28 l P (entry_of a.party a.entry l) h)
      (λ _. cond_either Rested (cancels_quote a.kind) (cancel_quote a.party a.sell l) _ (λ _. quote-all 28 a.party a.sell l P h)
      (λ _.
      cond_either Rested (sets_phase a.kind) (and_then (reported Noted l) (sweep a.quantity)) (reported Noted l) (λ _. sweep-all a.quantity l P h)
      (λ _. h))))
    where
      Rested : Ran (List Entry) Report → Type 0
      Rested x = All P x.final

  -- what those of an arrival do, and a note, and what is cancelled, with 28 or 31
  pub own-tells : (P : Report → Type 0) → (enters a.kind ≡ true → All P (arrived t (comer t.given a) l).records) → P Noted
      → ((why : ℕ) → 27 ≤ why → (x : Entry) → P (cancelled why x)) → All P (own_part t a l).records
  unfolding own_part
  own-tells P arrives noted gone =
      cond_either Says (enters a.kind) (arrived t (comer t.given a) l) _ arrives
      (λ _. cond_either Says (cancels_entry a.kind) (cancel_entry a.party a.entry l) _
      (λ _. cut-says l P gone 28 (omega arith) (entry_of a.party a.entry l))
      (λ _. cond_either Says (cancels_quote a.kind) (cancel_quote a.party a.sell l) _
      (λ _. cut-says l P gone 28 (omega arith) (quote_in a.party a.sell l))
      (λ _. cond_either Says (sets_phase a.kind) (and_then (reported Noted l) (sweep a.quantity)) (reported Noted l)
      (λ _. (noted, sweep-says l P gone a.quantity)) (λ _. (noted, tt)))))
    where
      Says : Ran (List Entry) Report → Type 0
      Says x = All P x.records
