-- Settling as code: easing's stage and behind it the stage of trades and moves, each with what it asks.
-- Assumes nothing.
use Prim.Native.Nat.{ℕ}
use mathlib.Core.Path.{◌≡◌, sym, subst}
use mathlib.Core.List.{List}
use Rattle.prices.specs.declared.Market.{Market}
use Rattle.lists.specs.Run.{stop}
use Rattle.book.specs.declared.Entry.{Entry}
use Rattle.book.specs.declared.Book.{Book}
use Rattle.book.specs.Shape.{entries_of}
use Rattle.telling.specs.Stage.{Staged}
use Rattle.soundness_theory.specs.SoundMarket.{SoundFor}
use Rattle.settling_theory.specs.Settle.{next_ease, eased, stirred, settled}
use Rattle.settling.specs.Turns.{Easeable, Stirable, Settleable}
use Rattle.settling_theory.proofs.StirRule.{Easy}
use Rattle.soundness_theory.proofs.MarketFacts.{sound-for}
use Rattle.settling_theory.proofs.Settles.{easy-one}
use Rattle.telling.proofs.StageLaws.{roomy-first, staged-list, staged-then, staged-room}
use Rattle.settling.proofs.Rules.{keep-sound, easy-uneased}

module _ {k : Market} {b : Book} {room : List ℕ} {n : ℕ} (h : Settleable k b room n) where
  pub settle-eases : Easeable k b room n
  unfolding settled
  settle-eases = record {
    well = h.well;
    sound = h.sound;
    roomy = roomy-first (eased k (entries_of b)).records (stirred k (eased k (entries_of b)).final).records h.roomy;
  }

  easy : Easy k h.sound.top (eased k (entries_of b)).final
  easy = easy-one k h.sound.top (sound-for h.sound).0 (entries_of b) (sound-for h.sound).1

  module _ {c : Book} {room' : List ℕ} {n' : ℕ} (s : Staged (eased k (entries_of b)) room n c room' n') where
    pub settle-stirs : Stirable k c room' n'
    unfolding settled
    settle-stirs = record {
      well = s.well;
      sound = subst (SoundFor k) (sym (staged-list s)) (keep-sound h.sound easy.sound);
      uneased = subst (λ (l : List Entry). next_ease k l ≡ stop) (sym (staged-list s)) (easy-uneased (sound-for h.sound).0 easy);
      roomy = staged-room s (stirred k) h.roomy;
    }

    pub settle-ends : {d : Book} {room'' : List ℕ} {n'' : ℕ} → Staged (stirred k (entries_of c)) room' n' d room'' n''
        → Staged (settled k (entries_of b)) room n d room'' n''
    unfolding settled
    settle-ends t = staged-then s (stirred k) t
