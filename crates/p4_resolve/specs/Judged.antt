-- Cited by private clauses: what is known of the pieces of a text once some of them are judged, whatever pieces follow.
use Rattle.std.specs.Prelude.{◌≡◌, ℕ, ◌%◌, ◌^◌, Bool, false, List, [], ◌++◌, map, Some, Vec}
use Rattle.std.specs.declared.alloc.Global.{Global}
use Rattle.cocoon_num.specs.Lists.{is_one_of}
use Rattle.p4_kinds.specs.Seen.{has_key}
use Rattle.p4_texts.specs.KindFaults.{Piece, faults_from}
use Rattle.p4_resolve.specs.FirstKind.{first_of}
use Rattle.p4_resolve.specs.declared.fault.KindFault.{KindFault}
use Rattle.p4_resolve.specs.declared.fault.KindFault.TheVariants.{Kind, NoMemory}

-- the index of a token is kept modulo 2^32: a text has fewer tokens
abbrev pub index : ℕ → ℕ
index n = n % 2 ^ 32

-- where the pieces that break a rule begin
abbrev pub indices : ℕ → List Piece → List ℕ
indices at ps = map index (faults_from at ps)

-- the pieces that begin at a token have the faults of those that are left from a later one on
pub record Rest (begin : ℕ) (ps : List Piece) (at : ℕ) (rs : List Piece) : Type 0 where
  pub faults : (qs : List Piece) → indices at (rs ++ qs) ≡ indices begin (ps ++ qs)

-- all keep their rules, and they end at this token
abbrev pub Passes : (begin : ℕ) → List Piece → (end : ℕ) → Type 0
Passes begin ps end = Rest begin ps end []

-- the first that breaks its rule begins at this token
pub record Stops (begin : ℕ) (ps : List Piece) (at : ℕ) : Type 0 where
  pub first : (qs : List Piece) → first_of (indices begin (ps ++ qs)) ≡ Some at

abbrev pub StopsBy : (begin : ℕ) → List Piece → KindFault → Type 0
StopsBy begin ps (Kind at) = Stops begin ps at
StopsBy begin ps NoMemory = Unit {0}

-- what begins at this token breaks its rule
abbrev pub Breaks : ℕ → (keeps : Bool) → KindFault → Type 0
Breaks at keeps (Kind i) = (i ≡ index at) × (keeps ≡ false)
Breaks at keeps NoMemory = Unit {0}

-- the set has these names
pub record Sees (keys : List (Vec ℕ Global)) (names : List (List ℕ)) : Type 0 where
  pub has : (x : List ℕ) → has_key keys x ≡ is_one_of names x
