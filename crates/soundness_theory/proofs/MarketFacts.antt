-- What a sound market is, as facts; and entries that are sound before it.
-- Assumes nothing.
use mathlib.Core.Path.{◌≡◌}
use mathlib.Core.Bool.{Bool, true, false, ◌&&◌}
use mathlib.Core.List.{List}
use Rattle.prices.specs.declared.Market.{Market}
use Rattle.prices.specs.Step.{mpv, none_or_legal}
use Rattle.prices.specs.Side.{away}
use Rattle.prices.proofs.StepLaws.{Mpv, LegalIfAny, is-mpv, is-none-or-legal}
use Rattle.lists.proofs.Bools.{and_left, and_right}
use Rattle.book.specs.declared.Entry.{Entry}
use Rattle.soundness_theory.specs.SoundMarket.{sound_market, SoundFor}
use Rattle.soundness_theory.proofs.Facts.{Sound}
use Rattle.soundness_theory.proofs.SoundFacts.{is-sound}

pub record MarketFacts (k : Market) : Type 0 where
  pub step : Mpv k.m
  pub legal : (s : Bool) → LegalIfAny k.m (away k s)

pub market-facts : (k : Market) → sound_market k ≡ true → MarketFacts k
unfolding sound_market
market-facts k h = record { step = is-mpv k.m (and_left (mpv k.m) (none_or_legal k.m k.bid && none_or_legal k.m k.offer) h); legal = side }
  where
    both : (none_or_legal k.m k.bid && none_or_legal k.m k.offer) ≡ true
    both = and_right (mpv k.m) (none_or_legal k.m k.bid && none_or_legal k.m k.offer) h

    side : (s : Bool) → LegalIfAny k.m (away k s)
    side false = is-none-or-legal k.m k.offer (and_right (none_or_legal k.m k.bid) (none_or_legal k.m k.offer) both)
    side true = is-none-or-legal k.m k.bid (and_left (none_or_legal k.m k.bid) (none_or_legal k.m k.offer) both)

-- what a caller has seen to, as facts
pub sound-for : {k : Market} {l : List Entry} → (s : SoundFor k l) → MarketFacts k × Sound k.m s.top l
unfolding sound_market
sound-for {k} {l} s = (
  market-facts k s.market,
  is-sound k.m s.top l (and_left (mpv k.m) (none_or_legal k.m k.bid && none_or_legal k.m k.offer) s.market) s.entries,
)
