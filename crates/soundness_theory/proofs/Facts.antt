-- What soundness says of entries, as plain facts. Prices are compared in the frame of a side (crate prices, FrameLaws): a sell is the mirror image of a buy
-- and nothing goes by side.
-- Assumes nothing.
use Prim.Native.Nat.{ℕ, ◌≤◌, ◌<◌}
use mathlib.Core.Path.{◌≡◌}
use mathlib.Core.Bool.{Bool, true, false}
use mathlib.Core.List.{List, [], ◌∷◌}
use Rattle.kinds.specs.Kinds.{enters, sliding, dark}
use Rattle.prices.proofs.FrameLaws.{seen, Facing}
use Rattle.prices.proofs.StepLaws.{Mpv, Legal}
use Rattle.prices.proofs.RestLaws.{Slides}
use Rattle.lists.specs.Tests.{All}
use Rattle.book.specs.declared.Entry.{Entry}
use Rattle.book.specs.declared.Pricing.{Pricing}
use Rattle.book.specs.declared.Pricing.TheVariants.{Fixed, Dark, Sliding}
use Rattle.book.specs.Entries.{quote}

-- ---- one entry ----

-- "plain, MMLO and displayed orders display and work at the limit"
pub record AtLimit (kind limit w : ℕ) : Type 0 where
  pub rigid : sliding kind ≡ false
  pub shown : dark kind ≡ false
  pub at : w ≡ limit

-- "dark ones work at the limit"
pub record InTheDark (kind limit w : ℕ) : Type 0 where
  pub dark : dark kind ≡ true
  pub at : w ≡ limit

-- "for MMALO and MMRP, .."
pub record AsItSlides (m kind : ℕ) (s : Bool) (limit d w : ℕ) : Type 0 where
  pub able : sliding kind ≡ true
  pub slides : Slides m s limit d w

abbrev pub PricedAs : ℕ → ℕ → Bool → ℕ → ℕ → Pricing → Type 0
PricedAs m kind s limit w Fixed = AtLimit kind limit w
PricedAs m kind s limit w Dark = InTheDark kind limit w
PricedAs m kind s limit w (Sliding d) = AsItSlides m kind s limit d w

pub record EntryFacts (m top : ℕ) (e : Entry) : Type 0 where
  pub counted : 1 ≤ e.number
  pub given : e.number ≤ top
  pub entering : enters e.kind ≡ true
  pub party_low : 1 ≤ e.party
  pub party_high : e.party ≤ 99
  pub maker : quote e ≡ true → e.party ≤ 16
  pub limit : Legal m e.limit
  pub some : 1 ≤ e.quantity
  pub most : e.quantity ≤ 99999
  pub works : Legal m e.working
  pub prices : PricedAs m e.kind e.sell e.limit e.working e.pricing

-- ---- two entries ----

-- "every buy's working price is below every sell's": x works short of y, where y faces it
pub record Clear (x y : Entry) : Type 0 where
  pub clear : Facing x.sell y.sell → seen x.sell x.working < seen x.sell y.working

pub record PairFacts (x y : Entry) : Type 0 where
  pub other : x.number ≡ y.number → ⊥
  pub one-quote : quote x ≡ true → quote y ≡ true → x.party ≡ y.party → x.sell ≡ y.sell → ⊥
  pub apart : Clear x y

-- R of every two, the one that stands earlier first
abbrev pub EachTwo : (Entry → Entry → Type 0) → List Entry → Type 0
EachTwo R [] = Unit {0}
EachTwo R (x ∷ l) = All (R x) l × EachTwo R l

-- ---- the entries that rest ----

pub record Sound (m top : ℕ) (l : List Entry) : Type 0 where
  pub step : Mpv m
  pub entries : All (EntryFacts m top) l
  pub pairs : EachTwo PairFacts l
