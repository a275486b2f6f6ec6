-- DOCUMENT 01'S CLASS EXAMPLES a to l: one table, one theorem, by computation. "M 1, K 10, call, exempt unless said."
-- The trainee is party 1, a maker, who buys; messages are the packed bytes. "Passes" means: not stopped by that test (docs/DECISIONS), so that each row names
-- what price protection says, 0 where the quote passes, beside the reports.
-- Assumes nothing.
use Prim.Native.Nat.{ℕ, ◌-◌, ◌≤◌}
use mathlib.Core.Path.{◌≡◌, refl, ap, ◌∙◌}
use mathlib.Core.Bool.{Bool, true, false}
use mathlib.Core.List.{List, [], ◌∷◌, map}
use Rattle.std.specs.Prelude.{Option, None, Some}
use native.Mathlib.Omega.{arith}
use lib.ListN.{length, replicate, set}
use Rattle.lists.specs.Places.{without}
use Rattle.lists.specs.Tests.{all, any, pairs, All}
use Rattle.lists.specs.Choose.{scan, first}
use Rattle.lists.specs.Run.{still, leading, run_for, ran}
use Rattle.packing.specs.Codec.{thing_of, unpack_of}
use Rattle.packing.specs.Message.{by_kind, messages}
use Rattle.prices.specs.Side.{keen, meek, reaches, nearer}
use Rattle.prices.specs.Step.{mpv, on_grid, up, down, rung, legal, none_or_legal, back, last_price, apart}
use Rattle.kinds.specs.Kinds.{row_of}
use Rattle.prices.specs.Aims.{minded, up_to, short_of, aim_display, aim_working}
use Rattle.prices.specs.Protect.{figures24, limited24}
use Rattle.prices.specs.Rest.{marketable, resting_prices, at_rest, stirs_at, slides}
use Rattle.prices.specs.Ease.{eased_to, eases}
use Rattle.book.specs.Shape.{entries_of, book_of}
use Rattle.book.specs.Change.{hit, hit_both}
use Rattle.book.specs.Look.{cost, priority, best_contra, nearest, quote_in, lowest}
use Rattle.soundness_theory.specs.Sound.{priced_as, sound_entry, sound_pair, sound_entries, sound_book}
use Rattle.settling_theory.specs.Settle.{next_ease, easings, next_stir, stirrings, eased, stirred, settled}
use Rattle.arrival.specs.Cancel.{cut}
use Rattle.arrival.specs.Take.{next_take, chances, taken, took}
use Rattle.arrival.specs.Post.{stop_for}
use Rattle.arrival.specs.Arrive.{rejected_by, entered, stops_at_once, protection_for, rejection, arrived, blocks}
use Rattle.series.specs.Series.{sound_terms, sound_phase, sound_series}
use Rattle.handler.specs.Refuse.{refusal_of}
use Rattle.handler.specs.Accept.{own_part, terms_after, blocked_after, done, comer}
use Rattle.packing.specs.declared.message.Event.{Event}
use Rattle.packing.specs.declared.report.Report.{Report}
use Rattle.packing.specs.declared.report.Report.TheVariants.{Rejected, Traded, Rested, Cancelled}
use Rattle.packing.specs.Room.{read_back, room_size}
use Rattle.book.specs.declared.Entry.{Entry}
use Rattle.book.specs.declared.Pricing.{Pricing}
use Rattle.book.specs.declared.Pricing.TheVariants.{Fixed, Dark, Sliding}
use Rattle.terms.specs.declared.Terms.{Terms}
use Rattle.series.specs.declared.Series.{Series}
use Rattle.handler.specs.Asked.{ask_of}
use Rattle.handler.specs.Handle.{Handled, handled}
use Rattle.lists.proofs.TestLaws.{all_map}
use Rattle.book.proofs.ShapeLaws.{entries-of-book}
use Rattle.handler.proofs.Ways.{handled-accepted}
use Rattle.handler.proofs.Demands.{reports_of, reports-counted, reports-told}

-- ---- rows ----

pub data Letter : Type 0 where
  example-a example-b example-c example-d example-e example-f example-g example-h example-i example-j example-k example-l : Letter

-- an example: the series before, as its numbers and the entries that rest, with nobody blocked; the message; what price protection says; the reports; and the
-- series afterwards, as the entries that rest, its numbers and its block list
pub record Example : Type 0 where
  pub name : Letter
  pub terms : Terms
  pub book : List Entry
  pub message : List ℕ
  pub barred : ℕ
  pub reports : List Report
  pub after : List Entry
  pub numbers : Terms
  pub blocked : List Bool

abbrev row : Letter → Terms → List Entry → List ℕ → ℕ → List Report → List Entry → Terms → List Bool → Example
row name terms book message barred reports after numbers blocked = record {
  name = name;
  terms = terms;
  book = book;
  message = message;
  barred = barred;
  reports = reports;
  after = after;
  numbers = numbers;
  blocked = blocked;
}

-- nobody is blocked; this maker alone is
abbrev unblocked : List Bool
unblocked = replicate 16 false

abbrev blocked_alone : ℕ → List Bool
blocked_alone maker = set unblocked (maker - 1) true

-- an open call series, exempt, with M 1: K, the away bid and offer, and how many entry numbers have been given
abbrev calls : ℕ → ℕ → ℕ → ℕ → Terms
calls k bid offer given = record {
  put = false;
  exempt = true;
  m = 1;
  k = k;
  strike = 200;
  phase = 1;
  bid = bid;
  offer = offer;
  underlying = 0;
  given = given;
}

-- an open put series, not exempt, with M 1 and K 10, and no away price: its strike, and how many entry numbers have been given
abbrev puts : ℕ → ℕ → Terms
puts strike given = record {
  put = true;
  exempt = false;
  m = 1;
  k = 10;
  strike = strike;
  phase = 1;
  bid = 0;
  offer = 0;
  underlying = 0;
  given = given;
}

-- orders of party 50 in the book: number, side, price and quantity
abbrev order_as : ℕ → ℕ → Bool → ℕ → ℕ → Pricing → Entry
order_as kind number sell price quantity pricing = record {
  number = number;
  party = 50;
  kind = kind;
  sell = sell;
  limit = price;
  quantity = quantity;
  working = price;
  pricing = pricing;
}

abbrev order : ℕ → Bool → ℕ → ℕ → Entry
order number sell price quantity = order_as 5 number sell price quantity Fixed

abbrev dark : ℕ → ℕ → ℕ → Entry
dark number price quantity = order_as 6 number true price quantity Dark

-- the trainee's quotes that rest: a plain one at its limit, a sliding one with its display and working price
abbrev quote_as : ℕ → ℕ → ℕ → ℕ → ℕ → Pricing → Entry
quote_as kind number limit quantity working pricing = record {
  number = number;
  party = 1;
  kind = kind;
  sell = false;
  limit = limit;
  quantity = quantity;
  working = working;
  pricing = pricing;
}

abbrev plain : ℕ → ℕ → ℕ → Entry
plain number limit quantity = quote_as 1 number limit quantity limit Fixed

abbrev slid : ℕ → ℕ → ℕ → ℕ → ℕ → ℕ → Entry
slid kind number limit quantity display working = quote_as kind number limit quantity working (Sliding display)

-- what the trainee is told: the reason, the trainee's entry, prices, quantity
abbrev rests : ℕ → ℕ → ℕ → ℕ → Report
rests number display working quantity = Rested false 1 number display working quantity

abbrev rejects : ℕ → ℕ → ℕ → ℕ → Report
rejects why number limit quantity = Rejected why false 1 number limit quantity

abbrev trades : ℕ → ℕ → ℕ → ℕ → Report
trades number other price quantity = Traded false 1 number other price quantity

abbrev cancels : ℕ → ℕ → ℕ → ℕ → Report
cancels why number limit quantity = Cancelled why false 1 number limit quantity

-- ---- THE TABLE ----

abbrev pub table : List Example
table =
    -- a: sell 99 in book, A 100, K 3: MMALO buy 101 rests 98/98
    row example-a (calls 3 0 100 1) (order 1 true 99 10 ∷ [])
    (48 ∷ 32 ∷ 3 ∷ 40 ∷ 0 ∷ 20 ∷ 0 ∷ 0 ∷ 0 ∷ 0 ∷ 0 ∷ [])
    0 (rests 2 98 98 5 ∷ [])
    (order 1 true 99 10 ∷ slid 3 2 101 5 98 98 ∷ []) (calls 3 0 100 2) unblocked
    -- b: 102 rejected 22
    ∷ row example-b (calls 3 0 100 1) (order 1 true 99 10 ∷ [])
    (48 ∷ 32 ∷ 3 ∷ 48 ∷ 0 ∷ 20 ∷ 0 ∷ 0 ∷ 0 ∷ 0 ∷ 0 ∷ [])
    0 (rejects 22 2 102 5 ∷ [])
    (order 1 true 99 10 ∷ []) (calls 3 0 100 2) unblocked
    -- c: one contract at 99: MMRP buy 2 at 102 trades 1, rests 99/100
    ∷ row example-c (calls 3 0 100 1) (order 1 true 99 1 ∷ [])
    (64 ∷ 32 ∷ 3 ∷ 48 ∷ 0 ∷ 8 ∷ 0 ∷ 0 ∷ 0 ∷ 0 ∷ 0 ∷ [])
    0 (trades 2 1 99 1 ∷ rests 2 99 100 1 ∷ [])
    (slid 4 2 102 1 99 100 ∷ []) (calls 3 0 100 2) unblocked
    -- d: at 103 trades 1, rest cancelled 22
    ∷ row example-d (calls 3 0 100 1) (order 1 true 99 1 ∷ [])
    (64 ∷ 32 ∷ 3 ∷ 56 ∷ 0 ∷ 8 ∷ 0 ∷ 0 ∷ 0 ∷ 0 ∷ 0 ∷ [])
    0 (trades 2 1 99 1 ∷ cancels 22 2 103 1 ∷ [])
    [] (calls 3 0 100 2) unblocked
    -- e: book 198 x 222, away 197 x 223: MMALO buy 225 rests 221/221
    ∷ row example-e (calls 10 197 223 2) (order 1 false 198 10 ∷ order 2 true 222 10 ∷ [])
    (48 ∷ 32 ∷ 7 ∷ 8 ∷ 0 ∷ 20 ∷ 0 ∷ 0 ∷ 0 ∷ 0 ∷ 0 ∷ [])
    0 (rests 3 221 221 5 ∷ [])
    (order 1 false 198 10 ∷ order 2 true 222 10 ∷ slid 3 3 225 5 221 221 ∷ []) (calls 10 197 223 3) unblocked
    -- f: A 220, empty book: plain buy 220 rejected 20
    ∷ row example-f (calls 10 0 220 0) ([])
    (16 ∷ 32 ∷ 6 ∷ 224 ∷ 0 ∷ 20 ∷ 0 ∷ 0 ∷ 0 ∷ 0 ∷ 0 ∷ [])
    0 (rejects 20 1 220 5 ∷ [])
    [] (calls 10 0 220 1) unblocked
    -- g: 219 rests
    ∷ row example-g (calls 10 0 220 0) ([])
    (16 ∷ 32 ∷ 6 ∷ 216 ∷ 0 ∷ 20 ∷ 0 ∷ 0 ∷ 0 ∷ 0 ∷ 0 ∷ [])
    0 (rests 1 219 219 5 ∷ [])
    (plain 1 219 5 ∷ []) (calls 10 0 220 1) unblocked
    -- h: A 1: MMRP buy 1 rejected 23
    ∷ row example-h (calls 10 0 1 0) ([])
    (64 ∷ 32 ∷ 0 ∷ 8 ∷ 0 ∷ 20 ∷ 0 ∷ 0 ∷ 0 ∷ 0 ∷ 0 ∷ [])
    0 (rejects 23 1 1 5 ∷ [])
    [] (calls 10 0 1 1) unblocked
    -- i: NBO 100, the away offer: bid 200 rejected 24
    ∷ row example-i (calls 10 0 100 0) ([])
    (16 ∷ 32 ∷ 6 ∷ 64 ∷ 0 ∷ 20 ∷ 0 ∷ 0 ∷ 0 ∷ 0 ∷ 0 ∷ [])
    24 (rejects 24 1 200 5 ∷ [])
    [] (calls 10 0 100 1) unblocked
    -- i: 199 passes: 24 does not stop it; then 20 does, since the away offer is the NBO
    ∷ row example-i (calls 10 0 100 0) ([])
    (16 ∷ 32 ∷ 6 ∷ 56 ∷ 0 ∷ 20 ∷ 0 ∷ 0 ∷ 0 ∷ 0 ∷ 0 ∷ [])
    0 (rejects 20 1 199 5 ∷ [])
    [] (calls 10 0 100 1) unblocked
    -- i: the same with a displayed sell as the NBO: 200 rejected 24
    ∷ row example-i (calls 10 0 0 1) (order 1 true 100 10 ∷ [])
    (16 ∷ 32 ∷ 6 ∷ 64 ∷ 0 ∷ 20 ∷ 0 ∷ 0 ∷ 0 ∷ 0 ∷ 0 ∷ [])
    24 (rejects 24 2 200 5 ∷ [])
    (order 1 true 100 10 ∷ []) (calls 10 0 0 2) unblocked
    -- i: 199 passes, and trades
    ∷ row example-i (calls 10 0 0 1) (order 1 true 100 10 ∷ [])
    (16 ∷ 32 ∷ 6 ∷ 56 ∷ 0 ∷ 20 ∷ 0 ∷ 0 ∷ 0 ∷ 0 ∷ 0 ∷ [])
    0 (trades 2 1 100 5 ∷ [])
    (order 1 true 100 5 ∷ []) (calls 10 0 0 2) unblocked
    -- j: NBO 101, the away offer: bid 152 rejected 24
    ∷ row example-j (calls 10 0 101 0) ([])
    (16 ∷ 32 ∷ 4 ∷ 192 ∷ 0 ∷ 20 ∷ 0 ∷ 0 ∷ 0 ∷ 0 ∷ 0 ∷ [])
    24 (rejects 24 1 152 5 ∷ [])
    [] (calls 10 0 101 1) unblocked
    -- j: 151 passes: 24 does not stop it; then 20 does
    ∷ row example-j (calls 10 0 101 0) ([])
    (16 ∷ 32 ∷ 4 ∷ 184 ∷ 0 ∷ 20 ∷ 0 ∷ 0 ∷ 0 ∷ 0 ∷ 0 ∷ [])
    0 (rejects 20 1 151 5 ∷ [])
    [] (calls 10 0 101 1) unblocked
    -- j: the same with a displayed sell as the NBO: 152 rejected 24
    ∷ row example-j (calls 10 0 0 1) (order 1 true 101 10 ∷ [])
    (16 ∷ 32 ∷ 4 ∷ 192 ∷ 0 ∷ 20 ∷ 0 ∷ 0 ∷ 0 ∷ 0 ∷ 0 ∷ [])
    24 (rejects 24 2 152 5 ∷ [])
    (order 1 true 101 10 ∷ []) (calls 10 0 0 2) unblocked
    -- j: 151 passes, and trades
    ∷ row example-j (calls 10 0 0 1) (order 1 true 101 10 ∷ [])
    (16 ∷ 32 ∷ 4 ∷ 184 ∷ 0 ∷ 20 ∷ 0 ∷ 0 ∷ 0 ∷ 0 ∷ 0 ∷ [])
    0 (trades 2 1 101 5 ∷ [])
    (order 1 true 101 5 ∷ []) (calls 10 0 0 2) unblocked
    -- k: put, strike 200, not exempt: bid 200 rejected 26
    ∷ row example-k (puts 200 0) ([])
    (16 ∷ 32 ∷ 6 ∷ 64 ∷ 0 ∷ 20 ∷ 0 ∷ 0 ∷ 0 ∷ 0 ∷ 0 ∷ [])
    26 (rejects 26 1 200 5 ∷ [])
    [] (puts 200 1) (blocked_alone 1)
    -- k: 199 passes, and rests
    ∷ row example-k (puts 200 0) ([])
    (16 ∷ 32 ∷ 6 ∷ 56 ∷ 0 ∷ 20 ∷ 0 ∷ 0 ∷ 0 ∷ 0 ∷ 0 ∷ [])
    0 (rests 1 199 199 5 ∷ [])
    (plain 1 199 5 ∷ []) (puts 200 1) unblocked
    -- l: dark sell 221 x 10, sell 222 x 10, no away: MMLO buy 222 x 20 trades 10 at 222, rest cancelled 21
    ∷ row example-l (calls 10 0 0 2) (dark 1 221 10 ∷ order 2 true 222 10 ∷ [])
    (32 ∷ 32 ∷ 6 ∷ 240 ∷ 0 ∷ 80 ∷ 0 ∷ 0 ∷ 0 ∷ 0 ∷ 0 ∷ [])
    0 (trades 3 2 222 10 ∷ cancels 21 3 222 10 ∷ [])
    (dark 1 221 10 ∷ []) (calls 10 0 0 3) unblocked
    ∷ []

-- ---- what is said of a row ----

abbrev pub before : Example → Series
before r = record { terms = r.terms; blocked = unblocked; book = book_of r.book }

pub record Outcome : Type 0 where
  -- the series before is sound
  pub sound : Bool
  pub refusal : ℕ
  pub barred : ℕ
  pub reports : List Report
  pub after : List Entry
  pub numbers : Terms
  pub blocked : List Bool

abbrev outcome_of : Series → Option Event → Outcome
outcome_of s None = record {
  sound = sound_series s;
  refusal = 1;
  barred = 0;
  reports = [];
  after = entries_of s.book;
  numbers = s.terms;
  blocked = s.blocked;
}
outcome_of s (Some e) = record {
  sound = sound_series s;
  refusal = refusal_of s (ask_of e);
  barred = protection_for s.terms (comer s.terms.given (ask_of e)) (entries_of s.book);
  reports = reports_of s (Some e);
  after = (done s.terms (ask_of e) (entries_of s.book)).final;
  numbers = terms_after s.terms (ask_of e);
  blocked = blocked_after s.terms (ask_of e) (entries_of s.book) s.blocked;
}

abbrev pub outcome : Example → Outcome
outcome r = outcome_of (before r) (unpack_of messages r.message)

abbrev pub expected : Example → Outcome
expected r = record {
  sound = true;
  refusal = 0;
  barred = r.barred;
  reports = r.reports;
  after = r.after;
  numbers = r.numbers;
  blocked = r.blocked;
}

-- THE THEOREM: every row of the table comes out as document 01 says
pub examples : map outcome table ≡ map expected table
unfolding without all any pairs scan first still leading run_for ran thing_of unpack_of by_kind keen meek reaches nearer mpv on_grid legal none_or_legal back
    last_price up down rung apart row_of minded up_to short_of aim_display aim_working figures24 limited24 marketable resting_prices at_rest stirs_at
    slides eased_to eases entries_of book_of hit hit_both cost priority best_contra nearest quote_in lowest priced_as sound_entry sound_pair sound_entries
    sound_book next_ease easings next_stir stirrings eased stirred settled cut next_take chances taken took stop_for rejected_by entered stops_at_once
    protection_for
    rejection arrived sound_terms sound_phase sound_series refusal_of own_part terms_after blocks blocked_after done
examples = refl

-- ---- so the handler answers, in any room that is large enough ----

pub record Shows (r : Example) (h : Handled) : Type 0 where
  pub refusal : h.answer.refusal ≡ 0
  pub count : h.answer.count ≡ length r.reports
  pub reports : read_back h.answer.count h.room ≡ map Some r.reports
  pub after : entries_of h.answer.series.book ≡ r.after
  pub numbers : h.answer.series.terms ≡ r.numbers
  pub blocked : h.answer.series.blocked ≡ r.blocked

row_shows : (r : Example) (room : List ℕ) → room_size ≤ length room → outcome r ≡ expected r → Shows r (handled (before r) r.message room)
row_shows r room space same = by (unpack_of messages r.message) refl same
  where
    by : (u : Option Event) → unpack_of messages r.message ≡ u → outcome_of (before r) u ≡ expected r → Shows r (handled (before r) r.message room)
    by None read k = absurd (let z : ◌≡◌ {A = ℕ} 1 0 = ap (λ (o : Outcome). o.refusal) k in omega arith)
    by (Some e) read k =
        let passes : refusal_of (before r) (ask_of e) ≡ 0 = ap (λ (o : Outcome). o.refusal) k in
        let answer = handled-accepted (before r) r.message room space (ap (λ (o : Outcome). o.sound) k) e read passes in
        let zero : (handled (before r) r.message room).answer.refusal ≡ 0 = ap (λ (h : Handled). h.answer.refusal) answer in
        let told : reports_of (before r) (unpack_of messages r.message) ≡ r.reports = ap (reports_of (before r)) read ∙ ap (λ (o : Outcome). o.reports) k in
        record {
          refusal = zero;
          count = reports-counted (before r) r.message room zero ∙ ap length told;
          reports = reports-told (before r) r.message room zero ∙ ap (map Some) told;
          after = ap (λ (h : Handled). entries_of h.answer.series.book) answer
              ∙ entries-of-book (done (before r).terms (ask_of e) (entries_of (before r).book)).final ∙ ap (λ (o : Outcome). o.after) k;
          numbers = ap (λ (h : Handled). h.answer.series.terms) answer ∙ ap (λ (o : Outcome). o.numbers) k;
          blocked = ap (λ (h : Handled). h.answer.series.blocked) answer ∙ ap (λ (o : Outcome). o.blocked) k;
        }

each_same : (l : List Example) → map outcome l ≡ map expected l → All (λ (r : Example). outcome r ≡ expected r) l
each_same [] h = tt
each_same (r ∷ l) h =
    let one : outcome r ≡ expected r = cc in
    let more : map outcome l ≡ map expected l = cc in
    (one, each_same l more)

pub examples-handled : (room : List ℕ) → room_size ≤ length room → All (λ (r : Example). Shows r (handled (before r) r.message room)) table
examples-handled room space = all_map (λ r same. row_shows r room space same) table (each_same table examples)
