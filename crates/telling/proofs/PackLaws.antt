-- Reports whose fields all fit, one behind the other.
-- Assumes nothing.
use mathlib.Core.Path.{◌≡◌}
use mathlib.Core.Bool.{true}
use mathlib.Core.List.{List, [], ◌∷◌, ◌++◌}
use Rattle.lists.specs.Tests.{All}
use Rattle.packing.specs.declared.report.Report.{Report}
use Rattle.packing.specs.Codec.{packs}
use Rattle.packing.specs.Report.{reports}
use Rattle.packing.specs.Room.{AllPack}

-- a report's fields all fit
abbrev pub Packs : Report → Type 0
Packs r = packs reports r ≡ true

pub all-pack : (rs : List Report) → All Packs rs → AllPack rs
all-pack [] a = tt
all-pack (r ∷ rs) a = (a.0, all-pack rs a.1)

pub pack-append : (rs ss : List Report) → AllPack rs → AllPack ss → AllPack (rs ++ ss)
pack-append [] ss a b = b
pack-append (r ∷ rs) ss a b = (a.0, pack-append rs ss a.1 b)

pub pack-left : (rs ss : List Report) → AllPack (rs ++ ss) → AllPack rs
pack-left [] ss a = tt
pack-left (r ∷ rs) ss a = (a.0, pack-left rs ss a.1)

pub pack-right : (rs ss : List Report) → AllPack (rs ++ ss) → AllPack ss
pack-right [] ss a = a
pack-right (r ∷ rs) ss a = pack-right rs ss a.1
