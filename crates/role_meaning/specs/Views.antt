-- Cited by the clauses of the functions that follow a body's paths: what the values of the code stand for.
use Rattle.std.specs.Prelude.{◌≡◌, ℕ, ◌+◌, ◌&&◌, ◌||◌, if◌then◌else◌, Bool, true, List, [], ◌∷◌, map, Vec}
use Rattle.std.specs.List.{list_any}
use Rattle.std.specs.declared.alloc.Global.{Global}
use Rattle.cocoon_num.specs.Names.{same_name}
use Rattle.refinement.specs.Trails.{FieldMark, Marks, VarMark}
use Rattle.role_meaning.specs.declared.trail.Field.{Field}
use Rattle.role_meaning.specs.declared.trail.Trail.{Trail}
use Rattle.role_meaning.specs.declared.trail.Variable.{Variable}

abbrev pub var_of : Variable → VarMark
var_of v = record { name = v.name.now; choice = v.choice }

abbrev pub field_of : Field → FieldMark
field_of f = record { header = f.header.now; field = f.field.now; choice = f.choice }

abbrev pub marks_at : Trail → Marks
marks_at t = record { choices = t.choices.items; vars = map var_of t.variables.items; fields = map field_of t.fields.items }

-- the place of the first field of these names, counted from the first number; behind all of them if there is none
abbrev pub place_of : ℕ → List FieldMark → (header field : List ℕ) → ℕ
place_of i [] h f = i
place_of i (v ∷ vs) h f = if same_name h v.header && same_name f v.field then i else place_of (i + 1) vs h f

-- ---- lists of the code

-- some trail passes a test
abbrev pub some_goes : (Marks → Bool) → List Trail → Bool
some_goes t ts = list_any (λ x. t (marks_at x)) ts

-- some choices pass a test
abbrev pub some_tried : (List ℕ → Bool) → List (Vec ℕ Global) → Bool
some_tried u found = list_any (λ (v : Vec ℕ Global). u v.items) found

-- one or the other does
abbrev pub passes : (Marks → Bool) → (List ℕ → Bool) → List Trail → List (Vec ℕ Global) → Bool
passes t u ts found = some_goes t ts || some_tried u found

-- where the first is true, the second is
abbrev pub Keeps : Bool → Bool → Type 0
Keeps a b = a ≡ true → b ≡ true
