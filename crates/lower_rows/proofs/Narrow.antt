-- Parameters and results of functions have at most 64 bits, in designs that keep the rules.
use Rattle.std.proofs.Common.{◌≡◌, ℕ, zero, suc, ◌<◌, ◌≤◌, ◌-◌, ◌^◌, ◌&&◌, Bool, true, false, List, [], ◌∷◌, All, get_or, length, map, slice_get, Option, Some, None, arith, pow_mono, refl, sym, subst}
use Rattle.std.specs.Prelude.{option_and_then}
use Rattle.std.specs.List.{AllZip}
use Rattle.std.proofs.lemmas.List.Elements.{All-head, All-tail}
use Rattle.cocoon_num.specs.Lists.{each}
use Rattle.cocoon_num.specs.Sorts.{is_declared_width}
use Rattle.cocoon_num.specs.Tree.{Param, ResultKind, of_width, of_truth, FunctionDecl, Design}
use Rattle.cocoon_num.specs.declared.bits.Bits.{Bits}
use Rattle.cocoon_num.specs.declared.fun_table.FunRow.{FunRow}
use Rattle.cocoon_num.specs.declared.fun_table.FunTable.{FunTable}
use Rattle.cocoon_resolve.specs.Kept.{AreDeclared}
use Rattle.cocoon_types.specs.Design.{functions, widths_of}
use Rattle.cocoon_types.specs.Names.{IsNamed}
use Rattle.cocoon_types.specs.Rules.{WellFormed}
use Rattle.declarations.specs.Declares.{function_number}
use Rattle.runtime_defs.proofs.DeclaredWidths.{AreWidths, IsDeclared, IsResult, functions_declared}
use Rattle.lower_code.specs.Growth.{params_at}
use Rattle.lowering.specs.Lower.{before_last_from, params_before_last}
use Rattle.lower_rows.specs.Words.{HasWord, HasWords}
use Rattle.runtime_defs.specs.Fitting.{FitsDesign, FitsPlace, FitsRow, result_width}
use Rattle.runtime_defs.specs.Guards.{table_named}
use Rattle.runtime_defs.specs.Places.{Places, table_at}

-- ---- numbers

is-word : (w n : ℕ) → w ≤ 64 → n < 2 ^ w → n < 2 ^ 64
is-word w n l h = let b : 2 ^ w ≤ 2 ^ 64 = pow_mono l in omega (arith, h, b)

pub ones_are_a_word : (w : ℕ) → w ≤ 64 → 2 ^ w - 1 < 2 ^ 64
ones_are_a_word w l = let b : 2 ^ w ≤ 2 ^ 64 = pow_mono l in omega (arith, b)

narrow : (w : ℕ) → is_declared_width w ≡ true → w ≤ 64
narrow w h = grind (arith, h)

-- ---- parameters

both-true : (a b : Bool) → (a && b) ≡ true → (a ≡ true) × (b ≡ true)
both-true true b h = (refl, h)
both-true false b h = absurd cc

each-declared : (ws : List ℕ) → each is_declared_width ws ≡ true → AreDeclared ws
each-declared [] h = tt
each-declared (w ∷ ws) h =
    let both = both-true (is_declared_width w) (each is_declared_width ws) h in
    (narrow w both.0, each-declared ws both.1)

some-declared : (ws : List ℕ) → AreWidths ws → AreDeclared ws
some-declared [] h = absurd h
some-declared (w ∷ ws) h = each-declared (w ∷ ws) h

-- one of them, by its place
pub declared-at : {A : Type 0} (f : A → Param) (xs : List A) (i : ℕ) (x : A) → AreDeclared (widths_of (map f xs)) → i < length xs → x ≡ get_or xs i x → (f x).width ≤ 64
declared-at f [] i x h l e = absurd (omega arith)
declared-at f (y ∷ ys) zero x h l e = subst (λ z. (f z).width ≤ 64) (sym e) h.0
declared-at f (y ∷ ys) (suc i) x h l e = declared-at f ys i x h.1 (omega arith) e

before-last-from : (p : Param) (ps : List Param) → AreDeclared (widths_of (p ∷ ps)) → AreDeclared (widths_of (before_last_from p ps))
before-last-from p [] n = tt
before-last-from p (q ∷ ps) n = (n.0, before-last-from q ps n.1)

before-last : (ps : List Param) → AreDeclared (widths_of ps) → AreDeclared (widths_of (params_before_last ps))
before-last [] n = tt
before-last (p ∷ ps) n = before-last-from p ps n

at : {A : Type 0} (P : A → Type 0) (xs : List A) (k : ℕ) (x : A) → All P xs → slice_get xs k ≡ Some x → P x
at P [] k x h g = absurd cc
at P (y ∷ ys) zero x h g = let same : y ≡ x = cc in subst P same (All-head P y ys h)
at P (y ∷ ys) (suc k) x h g = at P ys k x (All-tail P y ys h) g

-- the parameters of the function of a number, all but the last
pub group-declared : (d : Design) → All IsNamed (functions d) → WellFormed d → (n : ℕ) → AreDeclared (widths_of (params_before_last (params_at d n)))
group-declared d names rules n = by (slice_get (functions d) n) refl
  where
    by : (o : Option FunctionDecl) → slice_get (functions d) n ≡ o → AreDeclared (widths_of (params_before_last (elim o [ Some g ↦ g.params | None ↦ [] ])))
    by None e = tt
    by (Some g) e = before-last g.params (some-declared (widths_of g.params) (at IsDeclared (functions d) n g (functions_declared d names rules) e).params)

-- ---- results

-- the results of a table, where there is one
abbrev pub MayHaveWords : Option FunTable → Type 0
MayHaveWords None = Unit {0}
MayHaveWords (Some t) = HasWords t

narrow-result : (kind : ResultKind) → IsResult kind → result_width kind ≤ 64
narrow-result (of_width w) h = narrow w h
narrow-result of_truth h = omega arith

bits-are-a-word : (b : Bits) (w : ℕ) → b.width ≡ w → w ≤ 64 → b.value < 2 ^ 64
bits-are-a-word b w e l = is-word w b.value l (subst (λ u. b.value < 2 ^ u) e b.fits)

rows-have-words : (ws : List ℕ) (r : ℕ) (rows : List FunRow) → r ≤ 64 → All (FitsRow ws r) rows → All HasWord rows
rows-have-words ws r rows l f = λ k d i. bits-are-a-word (get_or rows k d).result r (f k d i).result_is l

place-has-words : (f : FunctionDecl) (p : Option FunTable) → IsDeclared f → FitsPlace f p → MayHaveWords p
place-has-words f None h z = tt
place-has-words f (Some t) h z =
    let l = narrow-result f.result h.result in
    record {
      rows = rows-have-words t.widths (result_width f.result) t.rows l z.1.rows_fit;
      otherwise = bits-are-a-word t.default (result_width f.result) z.1.default_is l;
    }

places-have-words : (fs : List FunctionDecl) (places : Places) → All IsDeclared fs → AllZip FitsPlace fs places → (n : ℕ) → MayHaveWords (table_at places n)
places-have-words [] [] h z n = tt
places-have-words [] (p ∷ ps) h z n = absurd z
places-have-words (f ∷ fs) [] h z n = absurd z
places-have-words (f ∷ fs) (p ∷ ps) h z zero = place-has-words f p (All-head IsDeclared f fs h) z.0
places-have-words (f ∷ fs) (p ∷ ps) h z (suc n) = places-have-words fs ps (All-tail IsDeclared f fs h) z.1 n

-- the table of the function of a name
pub named-has-words : (d : Design) (places : Places) → All IsNamed (functions d) → WellFormed d → FitsDesign d places → (f : List ℕ) → MayHaveWords (table_named d places f)
named-has-words d places names rules z f = by (function_number d f)
  where
    by : (o : Option ℕ) → MayHaveWords (option_and_then (table_at places) o)
    by None = tt
    by (Some n) = places-have-words (functions d) places (functions_declared d names rules) z.places n
