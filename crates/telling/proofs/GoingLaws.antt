-- A loop that puts a rule to use until it is done, writing each report behind the last: its invariant is that what is still to be written from here is
-- what was to be written from the start. Every such loop cites these laws; a loop over a book, those at the end.
-- Assumes nothing.
use Prim.Native.Nat.{ℕ, ◌+◌, ◌<◌}
use mathlib.Core.Path.{◌≡◌, refl, sym, ap, ◌∙◌}
use mathlib.Core.List.{List, [], ◌∷◌}
use native.Mathlib.Omega.{arith}
use native.Mathlib.Nat.{add-zero}
use lib.ListN.{length}
use Rattle.lists.specs.Run.{Step, stop, go, Ran, still, leading, ran}
use Rattle.lists.proofs.RunLaws.{Falls, run-stop, run-go}
use Rattle.packing.specs.declared.report.Report.{Report}
use Rattle.packing.specs.Room.{written}
use Rattle.packing.proofs.RoomLaws.{length-written, written_none, written-append}
use Rattle.book.specs.declared.Entry.{Entry}
use Rattle.book.specs.declared.Book.{Book}
use Rattle.book.specs.Shape.{entries_of, book_of, WellFormed}
use Rattle.book.proofs.ShapeLaws.{book-of-entries}
use Rattle.telling.specs.Stage.{Roomy, Staged, alone}
use Rattle.telling.proofs.StageLaws.{roomy-step, staged-step, staged-list}

pub record Going {S : Type 0} (step : S → Step S Report) (measure : S → ℕ) (Ok : S → Type 0) (s₀ : S) (room₀ : List ℕ) (n₀ : ℕ) (s : S) (room : List ℕ)
    (n : ℕ) : Type 0 where
  pub ok : Ok s
  pub final : (ran step measure s).final ≡ (ran step measure s₀).final
  pub bytes : written room n (ran step measure s).records ≡ written room₀ n₀ (ran step measure s₀).records
  pub count : n + length (ran step measure s).records ≡ n₀ + length (ran step measure s₀).records
  pub roomy : Roomy room n (ran step measure s).records

pub going_start : {S : Type 0} {step : S → Step S Report} {measure : S → ℕ} {Ok : S → Type 0} {s : S} {room : List ℕ} {n : ℕ}
    → Ok s → Roomy room n (ran step measure s).records → Going step measure Ok s room n s room n
going_start o r = record { ok = o; final = refl; bytes = refl; count = refl; roomy = r }

module _ {S : Type 0} {step : S → Step S Report} {measure : S → ℕ} {Ok : S → Type 0}
    {s₀ : S} {room₀ : List ℕ} {n₀ : ℕ} {s : S} {room : List ℕ} {n : ℕ} (v : Going step measure Ok s₀ room₀ n₀ s room n) where
  -- where the rule is done: this is the end of the whole run
  pub record Ended : Type 0 where
    pub final : s ≡ (ran step measure s₀).final
    pub bytes : room ≡ written room₀ n₀ (ran step measure s₀).records
    pub count : n ≡ n₀ + length (ran step measure s₀).records

  pub going_end : step s ≡ stop → Ended
  unfolding still
  going_end e =
      let r : ran step measure s ≡ still s = run-stop step measure s e in
      record {
        final = sym (ap (λ (x : Ran S Report). x.final) r) ∙ v.final;
        bytes = sym (written_none room n) ∙ ap (λ (x : Ran S Report). written room n x.records) (sym r) ∙ v.bytes;
        count = sym (add-zero n) ∙ ap (λ (x : Ran S Report). n + length x.records) (sym r) ∙ v.count;
      }

  module _ (f : Falls step measure Ok) (r : Report) (t : S) (e : step s ≡ go r t) where
    first : ran step measure s ≡ leading r (ran step measure t)
    first = run-go step measure Ok f s r t v.ok e

    pub going_less : measure t < measure s
    going_less = f.less s r t v.ok e

    roomy-here : Roomy room n (r ∷ (ran step measure t).records)
    unfolding leading
    roomy-here = rw first at v.roomy

    -- the report that comes now finds its room
    pub going-room : Roomy room n (r ∷ [])
    going-room = record { space = omega (arith, roomy-here.space); fit = (roomy-here.fit.0, tt) }

    pub going_on : {room' : List ℕ} {n' : ℕ} → room' ≡ written room n (r ∷ []) → n' ≡ n + 1 → Going step measure Ok s₀ room₀ n₀ t room' n'
    unfolding leading
    going_on {room'} {n'} w c = record {
      ok = f.kept s r t v.ok e;
      final = sym (ap (λ (x : Ran S Report). x.final) first) ∙ v.final;
      bytes =
          rw (w, c) (sym (written-append room n (r ∷ []) (ran step measure t).records))
          ∙ ap (λ (x : Ran S Report). written room n x.records) (sym first) ∙ v.bytes;
      count = omega (arith, c, ap (λ (x : Ran S Report). length x.records) first, v.count);
      roomy = record { space = omega (arith, ap length w, length-written room n (r ∷ []), roomy-here.space, c); fit = roomy-here.fit.1 };
    }

-- ---- over a book ----

-- the step goes on
abbrev pub Goes : Step (List Entry) Report → Type 0
Goes x = (r : Report) × ((t : List Entry) × (x ≡ go r t))

pub record Looping (step : List Entry → Step (List Entry) Report) (measure : List Entry → ℕ) (Ok : List Entry → Type 0)
    (b₀ : Book) (room₀ : List ℕ) (n₀ : ℕ) (b : Book) (room : List ℕ) (n : ℕ) : Type 0 where
  pub well : WellFormed b
  pub going : Going step measure Ok (entries_of b₀) room₀ n₀ (entries_of b) room n

module _ {step : List Entry → Step (List Entry) Report} {measure : List Entry → ℕ} {Ok : List Entry → Type 0} where
  pub loop-start : {b : Book} {room : List ℕ} {n : ℕ} → WellFormed b → Ok (entries_of b) → Roomy room n (ran step measure (entries_of b)).records
      → Looping step measure Ok b room n b room n
  loop-start w ok h = record { well = w; going = going_start ok h }

  module _ {b₀ b : Book} {room₀ room : List ℕ} {n₀ n : ℕ} (v : Looping step measure Ok b₀ room₀ n₀ b room n) where
    pub loop-done : step (entries_of b) ≡ stop → Staged (ran step measure (entries_of b₀)) room₀ n₀ b room n
    loop-done e =
        let z = going_end v.going e in
        record { book = book-of-entries b v.well ∙ ap book_of z.final; well = v.well; bytes = z.bytes; count = z.count }

    module _ (f : Falls step measure Ok) {x : Step (List Entry) Report} (e : step (entries_of b) ≡ x) (g : Goes x) where
      -- there is room for the step
      pub loop-free : Roomy room n (alone (entries_of b) x).records
      loop-free = roomy-step (entries_of b) (sym g.1.1) (going-room v.going f g.0 g.1.0 (e ∙ g.1.1))

      module _ {b' : Book} {room' : List ℕ} {n' : ℕ} (s : Staged (alone (entries_of b) x) room n b' room' n') where
        stepped : Staged (alone (entries_of b) (go g.0 g.1.0)) room n b' room' n'
        stepped = staged-step (entries_of b) (sym g.1.1) s

        pub loop-falls : measure (entries_of b') < measure (entries_of b)
        loop-falls = rw (staged-list stepped) (going_less v.going f g.0 g.1.0 (e ∙ g.1.1))

        pub loop-turn : Looping step measure Ok b₀ room₀ n₀ b' room' n'
        loop-turn = record {
          well = stepped.well;
          going = rw (staged-list stepped) (going_on v.going f g.0 g.1.0 (e ∙ g.1.1) stepped.bytes stepped.count);
        }
