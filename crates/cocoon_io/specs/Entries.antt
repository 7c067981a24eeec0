-- The files that the entries of a map make; the view of `HonestFolder` cites this.
use Rattle.std.specs.Prelude.{ℕ, List, [], ◌∷◌, Vec, String}
use Rattle.std.specs.declared.alloc.Global.{Global}
use Rattle.std.specs.String.{string_bytes}
use Rattle.std.specs.FinMap.{from_entries}
use Rattle.cocoon_io.specs.Files.{Files}

-- names and bytes as lists
abbrev pub pairs_of : List (String Global × Vec ℕ Global) → List (List ℕ × List ℕ)
pairs_of [] = []
pairs_of (e ∷ es) = (string_bytes e.0, e.1.items) ∷ pairs_of es

-- the files that entries make
abbrev pub files_of : List (String Global × Vec ℕ Global) → Files
files_of es = from_entries (pairs_of es)
