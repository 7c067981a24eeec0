-- Cited by the clauses of the tables of declarations: where declarations stand.
use Rattle.std.specs.Prelude.{ℕ, zero, suc, List, [], ◌∷◌, ◌++◌, filter_map, Option, Some, option_map, option_and_then, slice_get}
use Rattle.cocoon_num.specs.Tree.{Decl, Refine, Design}
use Rattle.declarations.specs.declared.place.Place.{Place}

-- the declarations of a level: at level 0 those outside the blocks
abbrev pub level_decls : Design → ℕ → Option (List Decl)
level_decls d zero = Some d.decls
level_decls d (suc k) = option_map (λ (b : Refine). b.decls) (slice_get d.refines k)

-- the declaration that stands at a place
abbrev pub decl_at : Design → Place → Option Decl
decl_at d p = option_and_then (λ ds. slice_get ds p.index) (level_decls d p.level)

-- a declaration with its place
abbrev pub Placed : Type 0
Placed = Place × Decl

-- some declarations of a level, with their places from an index on
abbrev pub placed_from : (level index : ℕ) → List Decl → List Placed
placed_from level index [] = []
placed_from level index (d ∷ ds) = (record { level = level; index = index }, d) ∷ placed_from level (suc index) ds

-- those of some blocks, numbered from a level on
abbrev pub placed_blocks : (level : ℕ) → List Refine → List Placed
placed_blocks level [] = []
placed_blocks level (b ∷ bs) = placed_from level 0 b.decls ++ placed_blocks (suc level) bs

-- all declarations of a design, in order
abbrev pub placed : Design → List Placed
placed d = placed_from 0 0 d.decls ++ placed_blocks 1 d.refines

-- the places of those that are of one kind
abbrev pub places_by : {A : Type 0} → (Decl → Option A) → List Placed → List Place
places_by pick ps = filter_map (λ (p : Placed). option_map (λ _. p.0) (pick p.1)) ps

-- and what they declare
abbrev pub decls_by : {A : Type 0} → (Decl → Option A) → List Placed → List A
decls_by pick ps = filter_map (λ (p : Placed). pick p.1) ps
