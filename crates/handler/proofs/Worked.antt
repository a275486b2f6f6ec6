-- A WORKED BOOK: one away move makes two entries move, one freeing the other. An MMRP sell works one step in front of its display, at the away bid; an MMALO
-- buy rests one step short of it. The away bid rises onto the sell's display: the sell is eased by one step, which frees the buy to follow by one step.
-- Assumes nothing.
use Prim.Native.Nat.{ℕ}
use mathlib.Core.Path.{◌≡◌, refl}
use mathlib.Core.Bool.{true, false}
use mathlib.Core.List.{[], ◌∷◌}
use Rattle.std.specs.Prelude.{Some}
use lib.ListN.{replicate}
use Rattle.lists.specs.Places.{without}
use Rattle.lists.specs.Tests.{all, any, pairs}
use Rattle.lists.specs.Choose.{scan, first}
use Rattle.lists.specs.Run.{still, leading, run_for, ran}
use Rattle.packing.specs.Codec.{thing_of, unpack_of}
use Rattle.packing.specs.Message.{by_kind, messages}
use Rattle.prices.specs.Side.{keen, meek, reaches, nearer}
use Rattle.prices.specs.Step.{mpv, on_grid, up, down, rung, legal, none_or_legal, back, last_price, apart}
use Rattle.kinds.specs.Kinds.{row_of}
use Rattle.prices.specs.Aims.{minded, up_to, short_of, aim_display, aim_working}
use Rattle.prices.specs.Protect.{figures24, limited24}
use Rattle.prices.specs.Rest.{marketable, resting_prices, at_rest, stirs_at, slides}
use Rattle.prices.specs.Ease.{eased_to, eases}
use Rattle.book.specs.Shape.{entries_of, book_of}
use Rattle.book.specs.Change.{hit, hit_both}
use Rattle.book.specs.Look.{cost, priority, best_contra, nearest, quote_in, lowest}
use Rattle.soundness_theory.specs.Sound.{priced_as, sound_entry, sound_pair, sound_entries, sound_book}
use Rattle.settling_theory.specs.Settle.{any_stirs, next_ease, easings, next_stir, stirrings, eased, stirred, settled, stirring}
use Rattle.arrival.specs.Cancel.{cut}
use Rattle.arrival.specs.Take.{next_take, chances, taken, took}
use Rattle.arrival.specs.Post.{stop_for}
use Rattle.arrival.specs.Arrive.{rejected_by, entered, stops_at_once, protection_for, rejection, arrived}
use Rattle.series.specs.Series.{sound_terms, sound_phase, sound_series}
use Rattle.handler.specs.Refuse.{refusal_of}
use Rattle.handler.specs.Accept.{own_part, terms_after, done}
use Rattle.prices.specs.declared.Market.{Market}
use Rattle.packing.specs.declared.message.Event.TheVariants.{Away}
use Rattle.packing.specs.declared.report.Report.TheVariants.{Noted, Repriced}
use Rattle.book.specs.declared.Entry.{Entry}
use Rattle.book.specs.declared.Pricing.TheVariants.{Sliding}
use Rattle.terms.specs.declared.Terms.{Terms}
use Rattle.series.specs.declared.Series.{Series}
use Rattle.handler.specs.Asked.{ask_of}

-- party 2's MMRP sell, limit 200, and party 1's MMALO buy, limit 230, 5 contracts each, at a display and a working price
abbrev offer : ℕ → ℕ → Entry
offer display working = record {
  number = 1;
  party = 2;
  kind = 4;
  sell = true;
  limit = 200;
  quantity = 5;
  working = working;
  pricing = Sliding display;
}

abbrev bid : ℕ → ℕ → Entry
bid display working = record {
  number = 2;
  party = 1;
  kind = 3;
  sell = false;
  limit = 230;
  quantity = 5;
  working = working;
  pricing = Sliding display;
}

abbrev terms : Terms
terms = record {
  put = false;
  exempt = true;
  m = 1;
  k = 100;
  strike = 200;
  phase = 1;
  bid = 220;
  offer = 235;
  underlying = 0;
  given = 2;
}

-- the away bid stands at 220, and rises to 221
abbrev series : Series
series = record { terms = terms; blocked = replicate 16 false; book = book_of (offer 221 220 ∷ bid 219 219 ∷ []) }

abbrev market : Market
market = record { m = 1; bid = 221; offer = 235 }

pub record Worked : Type 0 where
  -- the series is sound, and nothing stirs in it
  pub sound : sound_series series ≡ true
  pub settled_before : any_stirs (record { m = 1; bid = 220; offer = 235 }) (offer 221 220 ∷ bid 219 219 ∷ []) ≡ false
  -- the message is accepted
  pub read : unpack_of messages (144 ∷ 0 ∷ 6 ∷ 232 ∷ 0 ∷ 0 ∷ 1 ∷ 214 ∷ 0 ∷ 0 ∷ 0 ∷ []) ≡ Some (Away 221 235)
  pub passes : refusal_of series (ask_of (Away 221 235)) ≡ 0
  -- both move, the sell first, and each goes last in rank
  pub moves : done terms (ask_of (Away 221 235)) (offer 221 220 ∷ bid 219 219 ∷ [])
      ≡ record { final = offer 221 221 ∷ bid 220 220 ∷ []; records = Noted ∷ Repriced true 2 1 221 221 5 ∷ Repriced false 1 2 220 220 5 ∷ [] }
  -- the buy stirs only once the sell has moved: that freed it
  pub held : stirring market (offer 221 220 ∷ bid 219 219 ∷ []) (bid 219 219) ≡ false
  pub freed : stirring market (bid 219 219 ∷ offer 221 221 ∷ []) (bid 219 219) ≡ true

pub worked : Worked
unfolding without all any pairs scan first still leading run_for ran thing_of unpack_of by_kind keen meek reaches nearer mpv on_grid legal none_or_legal back
    last_price up down rung apart row_of minded up_to short_of aim_display aim_working figures24 limited24 marketable resting_prices at_rest stirs_at
    slides eased_to eases entries_of book_of hit hit_both cost priority best_contra nearest quote_in lowest priced_as sound_entry sound_pair sound_entries
    sound_book next_ease easings next_stir stirrings eased stirred settled cut next_take chances taken took stop_for rejected_by entered stops_at_once
    protection_for
    rejection arrived sound_terms sound_phase sound_series refusal_of own_part terms_after done any_stirs
worked = record { sound = refl; settled_before = refl; read = refl; passes = refl; moves = refl; held = refl; freed = refl }
