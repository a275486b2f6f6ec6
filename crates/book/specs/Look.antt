-- Who trades first, and which prices a side faces.
-- Assumes nothing.
use Rattle.std.specs.Prelude.{ℕ, Option, Some, None, ◌+◌, ◌-◌, ◌*◌, ◌≡◌, Bool, true, false, cond, not, ◌&&◌, ◌||◌, List, leb}
use Rattle.prices.specs.Side.{nearer}
use Rattle.lists.specs.Choose.{scan, Found, nowhere, found, first, lesser, never, keyed}
use Rattle.book.specs.declared.Entry.{Entry}
use Rattle.book.specs.declared.Front.{Front}
use Rattle.book.specs.declared.Least.{Least}
use Rattle.book.specs.Entries.{display, displayed, against, own_entry, quote_of}

-- the rank at which a search has found an entry
abbrev pub rank_of : Found Entry → Option ℕ
rank_of nowhere = None
rank_of (found i e) = Some i

-- ---- who trades first ----

-- what a price costs a taker, less being better: to a buy the price, to a sell its mirror image (200,000 is above every legal price)
unfoldable pub cost : Bool → ℕ → ℕ
cost false p = p
cost true p = 200000 - p

-- THE PRIORITY. "A taker buy trades at the resting working price, with the lowest first; at one price displayed before undisplayed; then by rank."
-- The least goes first; among equals the earlier place, which is the older rank
unfoldable pub priority : Bool → Entry → ℕ
priority s e = 2 * cost s e.working + cond (displayed e) 0 1

-- "MMLO arriving passes over undisplayed interest."
abbrev pub eligible : Bool → Bool → Entry → Bool
eligible s shown_only e = against s e && (not shown_only || displayed e)

-- the one best contra entry for a taker of side s
unfoldable pub best_contra : Bool → Bool → List Entry → Found Entry
best_contra s shown_only l = first (eligible s shown_only) (lesser (priority s)) l

-- above all priorities (2^40): a price fits 32 bits
abbrev pub no_key : ℕ
no_key = 1099511627776

-- a turn of a scan for it, which holds the least key that it has met, and where, or nothing: a lesser key takes its place
abbrev pub lower_key : Option Least → ℕ → ℕ → Option Least
lower_key None at key = Some (record { key = key; at = at })
lower_key (Some held) at key = cond (leb held.key key) (Some held) (Some (record { key = key; at = at }))

-- what such a scan answers where K says which keys an entry may be given: if it is one key of those that pass a test, the first least
abbrev pub LeastBy : (Entry → Option ℕ → Type 0) → List Entry → Option ℕ → Type 0
LeastBy K l r = (test : Entry → Bool) (key : Entry → ℕ) → ((e : Entry) (k : Option ℕ) → K e k → k ≡ keyed test key e) → r ≡ rank_of (first test (lesser key) l)

-- ---- the prices that a side faces, 0 for none ----

abbrev pub working : Entry → ℕ
working e = e.working

-- of those that face side s, the nearest price of this kind; a turn, and reading on from q
abbrev pub facing : (Entry → ℕ) → Bool → ℕ → Entry → ℕ
facing price s q e = cond (against s e) (nearer s q (price e)) q

unfoldable pub nearest : (Entry → ℕ) → Bool → ℕ → List Entry → ℕ
nearest price s q l = scan (λ (p : ℕ) (_ : ℕ) (e : Entry). facing price s p e) q 0 l

-- "C the lowest working price of any sell in the book, dark included"
abbrev pub contra : Bool → List Entry → ℕ
contra s l = nearest working s 0 l

-- both at once: the best working prices that rest
abbrev pub front_of : List Entry → Front
front_of l = record { bid = contra true l; offer = contra false l }

-- C of a side: to a buy the offer, to a sell the bid
abbrev pub contra_in : Front → Bool → ℕ
contra_in front false = front.offer
contra_in front true = front.bid

-- a turn of the scan for both
abbrev pub front_turn : Front → Entry → Front
front_turn front e = record { bid = facing working true front.bid e; offer = facing working false front.offer e }

-- "NBO is the lower of A and the lowest displayed sell price (a sliding entry's display), NBB its mirror."
abbrev pub national : Bool → ℕ → List Entry → ℕ
national s a l = nearest display s a l

-- 21: "an undisplayed sell": the price at which it works, none of one that is displayed; and the best such price
abbrev pub hidden_price : Entry → ℕ
hidden_price e = cond (displayed e) 0 e.working

abbrev pub best_hidden : Bool → List Entry → ℕ
best_hidden s l = nearest hidden_price s 0 l

-- ---- whom a message names ----

unfoldable pub entry_of : ℕ → ℕ → List Entry → Found Entry
entry_of party number l = first (own_entry party number) never l

unfoldable pub quote_in : ℕ → Bool → List Entry → Found Entry
quote_in party s l = first (quote_of party s) never l

-- "the first .. by entry number" of those that pass a test
unfoldable pub lowest : (Entry → Bool) → List Entry → Found Entry
lowest test l = first test (lesser (λ (e : Entry). e.number)) l

-- an answer that names it, where P says how a test may answer
abbrev pub LowestBy : (Entry → Bool → Type 0) → List Entry → Option ℕ → Type 0
LowestBy P l r = (test : Entry → Bool) → ((e : Entry) (b : Bool) → P e b → b ≡ test e) → r ≡ rank_of (lowest test l)
