-- "25 and 26 .. block that maker until kind 12": who is blocked after an accepted message, maker by maker; and a blocked maker's quotes are refused.
-- Assumes nothing.
use Prim.Native.Nat.{ℕ, ◌-◌, ◌≤◌, ◌<◌}
use mathlib.Core.Path.{◌≡◌, refl, sym, subst, ap, ◌∙◌}
use mathlib.Core.Bool.{Bool, true, false, cond, ◌&&◌}
use mathlib.Core.List.{List}
use Rattle.std.specs.Prelude.{Some}
use native.Mathlib.Omega.{arith}
use lib.Dec.{eqb, leb}
use lib.ListN.{length, set, get_or, length-set}
use lib.Seq.{get_or-set_same, get_or-set_other}
use borrow.Author.Tests.{eqb-true, eqb-false, eq-eqb, ne_eqb, leb-true, leb-false}
use Rattle.lists.proofs.Bools.{clash}
use Rattle.packing.specs.declared.message.Event.{Event}
use Rattle.packing.specs.Codec.{unpack_of}
use Rattle.packing.specs.Message.{messages}
use Rattle.packing.specs.Room.{room_size}
use Rattle.book.specs.Shape.{entries_of}
use Rattle.arrival.specs.Arrive.{rejection, blocks}
use Rattle.arrival.proofs.ReasonLaws.{rejection-among}
use Rattle.arrival.proofs.ForTheClass.{one_side, two-sides}
use Rattle.series.specs.declared.Series.{Series}
use Rattle.series.specs.Series.{sound_series}
use Rattle.handler.specs.Acts.{Accepted}
use Rattle.handler.specs.declared.Ask.{Ask}
use Rattle.handler.specs.Asked.{ask_of}
use Rattle.kinds.specs.Kinds.{quotes, makers, enters, enables}
use Rattle.kinds.proofs.KindLaws.{no_such, stays_out, quotes-enter, quotes-makers}
use Rattle.handler.specs.Refuse.{bad_party, bad_price, bad_quantity, not_open, refusal_of}
use Rattle.handler.specs.Accept.{comer, blocked_after, series_after}
use Rattle.handler.specs.Handle.{Handled, refused, handled}
use Rattle.handler.proofs.Ways.{handled-refused}
use Rattle.handler.proofs.Passed.{of-accepted, tests, maker-within}
use Rattle.handler.proofs.HandleLaws.{enable-maker}

-- a maker is blocked in a series
abbrev pub is_blocked_in : Series → ℕ → Bool
is_blocked_in s maker = get_or s.blocked (maker - 1) false

-- why the quote that a message brings is rejected; 0 where it is not
abbrev pub rejection_of : Series → Ask → ℕ
rejection_of s a = rejection s.terms (comer s.terms.given a) (entries_of s.book)

-- of the series s, what an accepted message asks of it, and the series afterwards
pub record Blocking (s : Series) (a : Ask) (after : Series) : Type 0 where
  -- a quote rejected with 25 or 26 leaves its maker blocked;
  pub blocked : quotes a.kind ≡ true → 25 ≤ rejection_of s a → is_blocked_in after a.party ≡ true
  -- kind 12 leaves its maker free;
  pub enabled : a.kind ≡ 12 → is_blocked_in after a.party ≡ false
  -- every other maker is as it was;
  pub others : (maker : ℕ) → 1 ≤ maker → (maker ≡ a.party → ⊥) → is_blocked_in after maker ≡ is_blocked_in s maker
  -- after any other message, a quote not rejected or rejected with 20 to 24 among them, every maker is as it was;
  pub same : (a.kind ≡ 12 → ⊥) → (quotes a.kind ≡ true → rejection_of s a ≤ 24) → after.blocked ≡ s.blocked
  -- and there is still a flag for each of the 16 makers;
  pub flags : length after.blocked ≡ 16
  -- so that who is blocked stays so until kind 12 names it
  pub until : (maker : ℕ) → 1 ≤ maker → is_blocked_in s maker ≡ true → (a.kind ≡ 12 → maker ≡ a.party → ⊥) → is_blocked_in after maker ≡ true

module _ (s : Series) (a : Ask) where
  not-enable : quotes a.kind ≡ true → enables a.kind ≡ false
  not-enable q = no_such enters 12 a.kind (stays_out 12 refl) (quotes-enter a.kind q)

  -- the three ways
  enabled-is : a.kind ≡ 12 → (series_after s a).blocked ≡ set s.blocked (a.party - 1) false
  unfolding blocked_after
  enabled-is k = rw (eq-eqb a.kind 12 k) refl

  blocked-is : quotes a.kind ≡ true → 25 ≤ rejection_of s a → (series_after s a).blocked ≡ set s.blocked (a.party - 1) true
  unfolding blocked_after blocks
  blocked-is q low =
      rw (not-enable q, q, two-sides (rejection_of s a) low (rejection-among s.terms (comer s.terms.given a) (entries_of s.book)).most) refl

  pub same-is : (a.kind ≡ 12 → ⊥) → (quotes a.kind ≡ true → rejection_of s a ≤ 24) → (series_after s a).blocked ≡ s.blocked
  unfolding blocked_after blocks
  same-is k low = rw (ne_eqb a.kind 12 k) (go (quotes a.kind) refl)
    where
      go : (b : Bool) → quotes a.kind ≡ b
          → cond (b && blocks s.terms (comer s.terms.given a) (entries_of s.book)) (set s.blocked (a.party - 1) true) s.blocked ≡ s.blocked
      go true q = rw (one_side (rejection_of s a) (low q)) refl
      go false q = refl

module _ (s : Series) (a : Ask) (ok : Accepted s a) (flags : length s.blocked ≡ 16) where
  -- a maker has a flag
  party-flag : makers a.kind ≡ true → (1 ≤ a.party) × (a.party - 1 < length s.blocked)
  party-flag q = let p = maker-within a q (tests s a ok).party in (p.0, omega (arith, p.0, p.1, flags))

  quote-flag : quotes a.kind ≡ true → makers a.kind ≡ true
  quote-flag q = quotes-makers a.kind q

  -- which of them it is: what holds in each holds afterwards
  by-ways : (C : List Bool → Type 0) → (a.kind ≡ 12 → C (set s.blocked (a.party - 1) false))
      → (quotes a.kind ≡ true → C (set s.blocked (a.party - 1) true)) → C s.blocked → C (series_after s a).blocked
  by-ways C one two three = go (enables a.kind) refl (quotes a.kind) refl (leb 25 (rejection_of s a)) refl
    where
      go : (b : Bool) → enables a.kind ≡ b → (c : Bool) → quotes a.kind ≡ c → (d : Bool) → leb 25 (rejection_of s a) ≡ d → C (series_after s a).blocked
      go true p c q d r = subst C (sym (enabled-is s a (eqb-true a.kind 12 p))) (one (eqb-true a.kind 12 p))
      go false p true q true r = subst C (sym (blocked-is s a q (leb-true 25 (rejection_of s a) r))) (two q)
      go false p true q false r =
          subst C (sym (same-is s a (eqb-false a.kind 12 p) (λ _. let z = leb-false 25 (rejection_of s a) r in omega (arith, z)))) three
      go false p false q d r = subst C (sym (same-is s a (eqb-false a.kind 12 p) (λ z. clash z q))) three

  -- another maker has another flag
  other-flag : (maker : ℕ) (b : Bool) → 1 ≤ maker → (maker ≡ a.party → ⊥) → makers a.kind ≡ true
      → get_or (set s.blocked (a.party - 1) b) (maker - 1) false ≡ is_blocked_in s maker
  other-flag maker b one apart q =
      get_or-set_other s.blocked (a.party - 1) (maker - 1) b false (λ z. apart (omega (arith, one, (party-flag q).0, z)))

  own-flag : (b : Bool) → makers a.kind ≡ true → get_or (set s.blocked (a.party - 1) b) (a.party - 1) false ≡ b
  own-flag b q = get_or-set_same s.blocked (a.party - 1) b false (party-flag q).1

  pub blocking : Blocking s a (series_after s a)
  blocking = record {
    blocked = λ q low. ap (λ (f : List Bool). get_or f (a.party - 1) false) (blocked-is s a q low) ∙ own-flag true (quote-flag q);
    enabled = λ k. ap (λ (f : List Bool). get_or f (a.party - 1) false) (enabled-is s a k) ∙ own-flag false (enable-maker a k);
    others = λ maker one apart. by-ways (λ (f : List Bool). get_or f (maker - 1) false ≡ is_blocked_in s maker)
        (λ k. other-flag maker false one apart (enable-maker a k)) (λ q. other-flag maker true one apart (quote-flag q)) refl;
    same = same-is s a;
    flags = by-ways (λ (f : List Bool). length f ≡ 16) (λ k. length-set s.blocked (a.party - 1) false ∙ flags)
        (λ q. length-set s.blocked (a.party - 1) true ∙ flags) flags;
    until = until;
  }
    where
      until : (maker : ℕ) → 1 ≤ maker → is_blocked_in s maker ≡ true → (a.kind ≡ 12 → maker ≡ a.party → ⊥) → is_blocked_in (series_after s a) maker ≡ true
      until maker one h unnamed =
          by-ways (λ (f : List Bool). get_or f (maker - 1) false ≡ true) (λ k. other-flag maker false one (unnamed k) (enable-maker a k) ∙ h)
          (λ q. go q (eqb maker a.party) refl) h
        where
          go : quotes a.kind ≡ true → (b : Bool) → eqb maker a.party ≡ b → get_or (set s.blocked (a.party - 1) true) (maker - 1) false ≡ true
          go q true e = rw (eqb-true maker a.party e) (own-flag true (quote-flag q))
          go q false e = other-flag maker true one (eqb-false maker a.party e) (quote-flag q) ∙ h

-- BLOCKED UNTIL ENABLED, for every accepted message; the block list has a flag for each of the 16 makers, as the code's array has
pub blocked-until-enabled : (s : Series) (message room : List ℕ) (e : Event) → unpack_of messages message ≡ Some e → (handled s message room).answer.refusal ≡ 0
    → length s.blocked ≡ 16 → Blocking s (ask_of e) (handled s message room).answer.series
blocked-until-enabled s message room e read h flags =
    of-accepted s message room e read h (λ (x : Handled). Blocking s (ask_of e) x.answer.series) (λ ok space. blocking s (ask_of e) ok flags)

six-first : (s : Series) (a : Ask) → bad_party a ≡ false → bad_price s.terms.m a ≡ false → bad_quantity a ≡ false → not_open s.terms.phase a ≡ false
    → quotes a.kind ≡ true → is_blocked_in s a.party ≡ true → refusal_of s a ≡ 6
unfolding refusal_of
six-first s a party price quantity opened q h = rw (party, price, quantity, opened, q, h) refl

-- 6, "kinds 1-4, maker blocked": A BLOCKED MAKER'S QUOTE that passes the tests before, 10, 11 and 1 to 5, IS REFUSED WITH 6, and changes nothing
pub blocked-refused : (s : Series) (message room : List ℕ) (e : Event) → room_size ≤ length room → sound_series s ≡ true → unpack_of messages message ≡ Some e
    → bad_party (ask_of e) ≡ false → bad_price s.terms.m (ask_of e) ≡ false → bad_quantity (ask_of e) ≡ false → not_open s.terms.phase (ask_of e) ≡ false
    → quotes (ask_of e).kind ≡ true → is_blocked_in s (ask_of e).party ≡ true → handled s message room ≡ refused 6 s room
blocked-refused s message room e space sound read party price quantity opened q h =
    let six : refusal_of s (ask_of e) ≡ 6 = six-first s (ask_of e) party price quantity opened q h in
    handled-refused s message room space sound e read (λ z. omega (arith, six, z)) ∙ ap (λ (n : ℕ). refused n s room) six
