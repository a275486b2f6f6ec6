-- A sound market, and entries that are sound before it: what arrival and settling ask of their callers.
-- No rule of document 01 stands here, only words for contracts.
-- Assumes nothing.
use Rattle.std.specs.Prelude.{ℕ, ◌≡◌, Bool, true, ◌&&◌, List}
use Rattle.prices.specs.declared.Market.{Market}
use Rattle.prices.specs.Step.{mpv, none_or_legal}
use Rattle.book.specs.declared.Entry.{Entry}
use Rattle.soundness_theory.specs.Sound.{sound_entries}

-- an MPV and away prices that are none or legal
unfoldable pub sound_market : Market → Bool
sound_market k = mpv k.m && (none_or_legal k.m k.bid && none_or_legal k.m k.offer)

-- entries that are sound before a sound market, whatever number has been given last
pub record SoundFor (k : Market) (l : List Entry) : Type 0 where
  pub top : ℕ
  pub market : sound_market k ≡ true
  pub entries : sound_entries k.m top l ≡ true
