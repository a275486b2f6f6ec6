-- THE THEOREM OF SETTLING. From sound entries before a sound market settling comes to an end, by itself and in few steps; what it leaves is sound; and nothing
-- in it has a price to move or a trade to make.
-- Assumes nothing.
use Prim.Native.Nat.{ℕ, ◌+◌, ◌*◌, ◌≤◌}
use mathlib.Core.Path.{◌≡◌, refl, ap, ◌∙◌}
use mathlib.Core.Bool.{true, false}
use mathlib.Core.List.{List, ◌++◌}
use native.Mathlib.Omega.{arith}
use lib.ListN.{length, length-append}
use Rattle.prices.specs.declared.Market.{Market}
use Rattle.lists.specs.Places.{At}
use Rattle.lists.specs.Tests.{All}
use Rattle.lists.specs.Run.{stop, Complete}
use Rattle.lists.proofs.TestLaws.{all_append, all-at, count-le}
use Rattle.lists.proofs.RunLaws.{few, ran-complete, complete-stop, complete-keeps, complete-one, complete-tells}
use Rattle.packing.specs.declared.report.Report.{Report}
use Rattle.packing.specs.Room.{AllPack}
use Rattle.book.specs.declared.Entry.{Entry}
use Rattle.book.specs.Entries.{last_number}
use Rattle.soundness_theory.specs.Sound.{sound_entries}
use Rattle.soundness_theory.proofs.Facts.{Sound}
use Rattle.soundness_theory.proofs.SoundFacts.{sound-is}
use Rattle.telling.specs.Tell.{taker_of}
use Rattle.soundness_theory.specs.SoundMarket.{SoundFor}
use Rattle.settling_theory.specs.Settle.{easing, next_ease, easings, stirring, next_stir, triangle, stirrings, eased, stirred, settled}
use Rattle.settling_theory.proofs.Shapes.{ease-step, stir-step, ease-stop, stir-stop, nobody-eases}
use Rattle.soundness_theory.proofs.MarketFacts.{MarketFacts, sound-for}
use Rattle.settling_theory.proofs.EaseRule.{ease-falls, ease-length, EntryEased, eased-uneased, all-eased}
use Rattle.settling_theory.proofs.StirRule.{Easy, triangle-twice, triangle-mono, stir-falls, stir-length}
use Rattle.settling_theory.proofs.Keeps.{ease-keeps, stir-keeps, Stems, stems-start, stems-kept}
use Rattle.telling.proofs.PackLaws.{Packs, all-pack, pack-append}
use Rattle.settling_theory.proofs.Packs.{ease-packs, stir-packs}
use Rattle.telling.proofs.Within.{TradesWithin}
use Rattle.settling_theory.proofs.Within.{ease-within, stir-within}
use Rattle.settling_theory.proofs.Takers.{Minding, minding-kept, ease-spares, stir-spares}

-- what settling gives for entries l, numbered up to top, before the market k
pub record Settled (k : Market) (l : List Entry) (top : ℕ) : Type 0 where
  -- the entries left are sound, and numbered as before
  pub sound : sound_entries k.m top (settled k l).final ≡ true
  -- none of them stirs, and none eases: "Stop when there is none."
  pub unstirred : (i : ℕ) (e : Entry) → At (settled k l).final i e → stirring k (settled k l).final e ≡ false
  pub uneased : (i : ℕ) (e : Entry) → At (settled k l).final i e → easing k e ≡ false
  pub stirs-no-more : next_stir k (settled k l).final ≡ stop
  pub eases-no-more : next_ease k (settled k l).final ≡ stop
  -- with N entries at most N (N + 5) / 2 steps, each with its one report; no entry comes
  pub steps : 2 * length (settled k l).records ≤ length l * (length l + 5)
  pub fewer : length (settled k l).final ≤ length l
  -- the reports fit the room's fields
  pub fit : top ≤ last_number → AllPack (settled k l).records
  -- it is the one whole run of easing, and behind it the one whole run of trades and moves
  pub easing-run : Complete (next_ease k) l (eased k l).records (eased k l).final
  pub stirring-run : Complete (next_stir k) (eased k l).final (stirred k (eased k l).final).records (settled k l).final
  -- each entry left is one of those that were there, of the same number, party, kind, side and limit, and its display has not moved back
  pub stems : All (Stems l) (settled k l).final
  -- a quote that minds the contra price, MMALO, never takes: no report has its number as the taker's
  pub spared : (n : ℕ) → 1 ≤ n → All (Minding n) l → All (λ (r : Report). taker_of r ≡ n → ⊥) (settled k l).records
  -- "It never trades above A (a sell never below the away bid)": no trade is beyond the away price of its taker
  pub within : All (TradesWithin k) (settled k l).records

-- ---- the two runs ----

module _ (k : Market) (top : ℕ) (mk : MarketFacts k) (l : List Entry) (so : Sound k.m top l) where
  run-one : Complete (next_ease k) l (eased k l).records (eased k l).final
  unfolding eased
  run-one = ran-complete (next_ease k) (easings k) (Sound k.m top) (ease-falls k mk) l so

  sound-one : Sound k.m top (eased k l).final
  sound-one = complete-keeps (Sound k.m top) (ease-falls k mk).kept so run-one

  -- easing leaves sound entries of which none is to be eased
  pub easy-one : Easy k top (eased k l).final
  easy-one = record { sound = sound-one; eased = all-eased mk sound-one (ease-stop k (eased k l).final (complete-stop run-one)) }

  length-one : length (eased k l).final ≡ length l
  length-one = complete-keeps (λ (t : List Entry). length t ≡ length l) (λ s r t h e. ease-length (ease-step k s e) ∙ h) refl run-one

  few-one : length (eased k l).records ≤ length l
  unfolding eased easings
  few-one = omega (arith, few (next_ease k) (easings k) l, count-le (easing k) l)

  run-two : Complete (next_stir k) (eased k l).final (stirred k (eased k l).final).records (stirred k (eased k l).final).final
  unfolding stirred
  run-two = ran-complete (next_stir k) (stirrings k) (Easy k top) (stir-falls k mk) (eased k l).final easy-one

  easy-two : Easy k top (stirred k (eased k l).final).final
  easy-two = complete-keeps (Easy k top) (stir-falls k mk).kept easy-one run-two

  length_two : length (stirred k (eased k l).final).final ≤ length l
  length_two =
      complete-keeps (λ (t : List Entry). length t ≤ length l) (λ s r t h e. omega (arith, stir-length (stir-step k s e))) (omega (arith, length-one)) run-two

  few-two : length (stirred k (eased k l).final).records ≤ length l + triangle (length l)
  unfolding stirred stirrings
  few-two =
      let l₁ : List Entry = (eased k l).final in
      omega (arith, few (next_stir k) (stirrings k) l₁, count-le (stirring k l₁) l₁, length-one, ap triangle length-one)

  fit-both : top ≤ last_number → AllPack ((eased k l).records ++ (stirred k (eased k l).final).records)
  fit-both few =
      pack-append (eased k l).records (stirred k (eased k l).final).records
      (all-pack (eased k l).records
      (complete-tells (Sound k.m top) Packs (ease-falls k mk).kept (λ s r t h e. ease-packs few ((ease-falls k mk).kept s r t h e) (ease-step k s e))
      so run-one))
      (all-pack (stirred k (eased k l).final).records
      (complete-tells (Easy k top) Packs (stir-falls k mk).kept
      (λ s r t h e. stir-packs few h.sound ((stir-falls k mk).kept s r t h e).sound (stir-step k s e)) easy-one run-two))

  stems-one : All (Stems l) (eased k l).final
  stems-one = complete-keeps (All (Stems l)) (λ s r t h e. ease-keeps (stems-kept l) (ease-step k s e) h) (stems-start l) run-one

  stems-two : All (Stems l) (stirred k (eased k l).final).final
  stems-two = complete-keeps (All (Stems l)) (λ s r t h e. stir-keeps (stems-kept l) (stir-step k s e) h) stems-one run-two

  spared-both : (n : ℕ) → 1 ≤ n → All (Minding n) l
      → All (λ (r : Report). taker_of r ≡ n → ⊥) ((eased k l).records ++ (stirred k (eased k l).final).records)
  spared-both n some a =
      all_append (λ (r : Report). taker_of r ≡ n → ⊥) (eased k l).records (stirred k (eased k l).final).records
      (complete-tells (All (Minding n)) (λ (r : Report). taker_of r ≡ n → ⊥) (λ s r t h e. ease-keeps (minding-kept n some) (ease-step k s e) h)
      (λ s r t h e. ease-spares n some (ease-step k s e)) a run-one)
      (complete-tells (All (Minding n)) (λ (r : Report). taker_of r ≡ n → ⊥) (λ s r t h e. stir-keeps (minding-kept n some) (stir-step k s e) h)
      (λ s r t h e. stir-spares n some h (stir-step k s e))
      (complete-keeps (All (Minding n)) (λ s r t h e. ease-keeps (minding-kept n some) (ease-step k s e) h) a run-one) run-two)

  within_both : All (TradesWithin k) ((eased k l).records ++ (stirred k (eased k l).final).records)
  within_both =
      all_append (TradesWithin k) (eased k l).records (stirred k (eased k l).final).records
      (complete-tells (λ _. Unit {0}) (TradesWithin k) (λ s r t h e. tt) (λ s r t h e. ease-within (ease-step k s e)) tt run-one)
      (complete-tells (Easy k top) (TradesWithin k) (stir-falls k mk).kept (λ s r t h e. stir-within mk h.sound (stir-step k s e)) easy-one run-two)

  settles-from : Settled k l top
  unfolding settled
  settles-from = record {
    sound = sound-is k.m top easy-two.sound;
    unstirred = λ i e h. (stir-stop k (stirred k (eased k l).final).final (complete-stop run-two)).nobody i e h;
    uneased = uneased;
    stirs-no-more = complete-stop run-two;
    eases-no-more = nobody-eases k (stirred k (eased k l).final).final (record { nobody = uneased });
    steps = omega (arith, length-append (eased k l).records (stirred k (eased k l).final).records, few-one, few-two, triangle-twice (length l));
    fewer = length_two;
    fit = fit-both;
    easing-run = run-one;
    stirring-run = run-two;
    stems = stems-two;
    spared = spared-both;
    within = within_both;
  }
    where
      uneased : (i : ℕ) (e : Entry) → At (stirred k (eased k l).final).final i e → easing k e ≡ false
      uneased i e h =
          let l₂ : List Entry = (stirred k (eased k l).final).final in
          eased-uneased k mk e (all-at _ l₂ i e easy-two.sound.entries h) (all-at (EntryEased k) l₂ i e easy-two.eased h)

-- THE THEOREM
pub settles : {k : Market} {l : List Entry} → (s : SoundFor k l) → Settled k l s.top
settles {k} {l} s = settles-from k s.top (sound-for s).0 l (sound-for s).1

-- THERE IS ONLY ONE SETTLING: any whole run of easing with any whole run of trades and moves behind it is this one
pub one-settling : {k : Market} {l t u : List Entry} {rs ss : List Report} → SoundFor k l → Complete (next_ease k) l rs t → Complete (next_stir k) t ss u
    → ((settled k l).records ≡ rs ++ ss) × ((settled k l).final ≡ u)
unfolding settled
one-settling {k} {l} s a b =
    let z = settles s in
    let p = complete-one z.easing-run a in
    let q = complete-one z.stirring-run (rw (← p.1) at b) in
    (rw (p.0, q.0) refl, q.1)

-- a full book settles with at most 2,208 reports
pub settles-few : {k : Market} {l : List Entry} → SoundFor k l → length l ≤ 64 → length (settled k l).records ≤ 2208
settles-few {k} {l} s h = omega (arith, (settles s).steps, triangle-twice (length l), triangle-mono (length l) 64 h)
