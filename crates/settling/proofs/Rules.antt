-- The two rules of settling, by what their callers have seen to: each step keeps it and lowers the measure.
-- Assumes nothing.
use Prim.Native.Nat.{ℕ}
use mathlib.Core.Path.{◌≡◌, refl}
use mathlib.Core.List.{List}
use Rattle.prices.specs.declared.Market.{Market}
use Rattle.lists.specs.Run.{Step, stop, go}
use Rattle.lists.proofs.Bools.{clash}
use Rattle.lists.proofs.TestLaws.{all-at}
use Rattle.lists.proofs.RunLaws.{Falls}
use Rattle.packing.specs.declared.report.Report.{Report}
use Rattle.book.specs.declared.Entry.{Entry}
use Rattle.book.specs.declared.Book.{Book}
use Rattle.book.specs.Shape.{entries_of}
use Rattle.soundness_theory.proofs.Facts.{Sound}
use Rattle.soundness_theory.proofs.SoundFacts.{sound-is}
use Rattle.soundness_theory.specs.SoundMarket.{SoundFor}
use Rattle.settling_theory.specs.Settle.{next_ease, easings, stirring, next_stir, stirrings}
use Rattle.settling_theory.proofs.Shapes.{ease-stop, stir-stop, nobody-eases}
use Rattle.soundness_theory.proofs.MarketFacts.{MarketFacts, sound-for}
use Rattle.settling_theory.proofs.EaseRule.{ease-falls, EntryEased, eased-uneased, all-eased}
use Rattle.settling_theory.proofs.StirRule.{Easy, stir-falls}
use Rattle.telling.proofs.GoingLaws.{Goes}
use Rattle.settling.proofs.RankLaws.{Lowest}

pub keep-sound : {k : Market} {l t : List Entry} (s : SoundFor k l) → Sound k.m s.top t → SoundFor k t
keep-sound {k} s so = record { top = s.top; market = s.market; entries = sound-is k.m s.top so }

pub easing-falls : (k : Market) → Falls (next_ease k) (easings k) (SoundFor k)
easing-falls k = record {
  kept = λ l r t s e. keep-sound s ((ease-falls k (sound-for s).0).kept l r t (sound-for s).1 e);
  less = λ l r t s e. (ease-falls k (sound-for s).0).less l r t (sound-for s).1 e;
}

pub record Uneased (k : Market) (l : List Entry) : Type 0 where
  pub sound : SoundFor k l
  pub uneased : next_ease k l ≡ stop

easy : {k : Market} {l : List Entry} (u : Uneased k l) → Easy k u.sound.top l
easy {k} {l} u =
    record { sound = (sound-for u.sound).1; eased = all-eased (sound-for u.sound).0 (sound-for u.sound).1 (ease-stop k l u.uneased) }

pub easy-uneased : {k : Market} {top : ℕ} {l : List Entry} → MarketFacts k → Easy k top l → next_ease k l ≡ stop
easy-uneased {k} {top} {l} mk ea = nobody-eases k l (record {
  nobody = λ i e h. eased-uneased k mk e (all-at _ l i e ea.sound.entries h) (all-at (EntryEased k) l i e ea.eased h);
})

pub stirring-falls : (k : Market) → Falls (next_stir k) (stirrings k) (Uneased k)
stirring-falls k = record { kept = kept; less = λ l r t u e. (stir-falls k (sound-for u.sound).0).less l r t (easy u) e }
  where
    kept : (l : List Entry) (r : Report) (t : List Entry) → Uneased k l → next_stir k l ≡ go r t → Uneased k t
    kept l r t u e =
        let ea : Easy k u.sound.top t = (stir-falls k (sound-for u.sound).0).kept l r t (easy u) e in
        record { sound = keep-sound u.sound ea.sound; uneased = easy-uneased (sound-for u.sound).0 ea }

-- where an entry stirs, the step goes on
pub stir-goes : (k : Market) (b : Book) (i : ℕ) → Lowest (stirring k (entries_of b)) b i → {x : Step (List Entry) Report} → next_stir k (entries_of b) ≡ x
    → Goes x
stir-goes k b i w {x} e = at x e
  where
    at : (y : Step (List Entry) Report) → next_stir k (entries_of b) ≡ y → Goes y
    at stop h = clash w.passes ((stir-stop k (entries_of b) h).nobody i _ w.there)
    at (go r t) h = (r, (t, refl))
