-- The loops over the positions of a row and over the rows of a table.
use Rattle.std.proofs.Common.{◌≡◌, ℕ, ◌+◌, ◌-◌, ◌<◌, ◌≤◌, ◌^◌, List, [], ◌∷◌, fold, drop, length, map, get_or, slice_index, refl, ap, sym, ◌∙◌, subst, arith, zero, suc}
use Rattle.std.specs.List.{AllByRecursion, AllZip}
use Rattle.std.proofs.Math.Seq.{drop-cons, drop-length}
use Rattle.cocoon_num.specs.Values.{FitsWidth}
use Rattle.cocoon_num.specs.declared.bits.Bits.{Bits}
use Rattle.cocoon_num.specs.declared.fun_table.FunRow.{FunRow}
use Rattle.cocoon_num.specs.declared.fun_table.FunTable.{FunTable}
use Rattle.bv_terms.specs.declared.node.Node.{Node}
use Rattle.bv_terms.specs.declared.node.TermOp.TheVariants.{And}
use Rattle.bv_terms.specs.TermTrees.{Term, Args, constant, binary, pick, no_args, arg, width}
use Rattle.bv_terms.specs.Arenas.{args_of, term_at, width_at}
use Rattle.bv_terms.specs.Chains.{chain}
use Rattle.bv_terms.specs.WithRows.{number_term, position_test, position_tests, row_test, picks}
use Rattle.bv_terms.specs.Growth.{IsMade, OnlyGrows}
use Rattle.bv_terms.proofs.Growing.{grows-both, args-kept}

-- ---- the positions of a row

pub masks-count : (w : ℕ → ℕ) (args masks : List ℕ) → AllZip FitsWidth (map w args) masks → length masks ≡ length args
masks-count w [] [] h = refl
masks-count w [] (m ∷ ms) h = absurd h
masks-count w (a ∷ xs) [] h = absurd h
masks-count w (a ∷ xs) (m ∷ ms) h = ap suc (masks-count w xs ms h.1)

pub mask-fits : (w : ℕ → ℕ) (args masks : List ℕ) (i : ℕ) → AllZip FitsWidth (map w args) masks → i < length args → slice_index masks i < 2 ^ w (slice_index args i)
mask-fits w [] masks i h l = absurd (omega (arith, l))
mask-fits w (a ∷ xs) [] i h l = absurd h
mask-fits w (a ∷ xs) (m ∷ ms) zero h l = h.0
mask-fits w (a ∷ xs) (m ∷ ms) (suc i) h l = mask-fits w xs ms i h.1 (omega (arith, l))

pub below-at : (n : ℕ) (ids : List ℕ) (i : ℕ) → AllByRecursion (λ k. k < n) ids → i < length ids → slice_index ids i < n
below-at n [] i h l = absurd (omega (arith, l))
below-at n (k ∷ ks) zero h l = h.0
below-at n (k ∷ ks) (suc i) h l = below-at n ks i h.1 (omega (arith, l))

-- the first positions are joined
pub record Testing (old now : List Node) (row : FunRow) (args : List ℕ) (test at : ℕ) : Type 0 where
  pub grown : OnlyGrows old now
  pub within : at ≤ length args
  pub there : test < length now
  pub narrow : width_at now test ≡ 1
  pub rest : fold (binary And) (term_at now test) (position_tests (drop at row.values) (drop at row.masks) (args_of (term_at old) (drop at args)))
      ≡ row_test row (args_of (term_at old) args)

first-rest : (f : ℕ → Term) (vs ms xs : List ℕ) → 0 < length xs → length vs ≡ length xs → length ms ≡ length xs
    → fold (binary And) (position_test (slice_index vs 0) (slice_index ms 0) (f (slice_index xs 0))) (position_tests (drop 1 vs) (drop 1 ms) (args_of f (drop 1 xs)))
    ≡ chain And (constant 1 1) (position_tests vs ms (args_of f xs))
first-rest f vs ms [] p e d = absurd (omega (arith, p))
first-rest f [] ms (x ∷ xs) p e d = absurd (omega (arith, e))
first-rest f (v ∷ vs) [] (x ∷ xs) p e d = absurd (omega (arith, d))
first-rest f (v ∷ vs) (m ∷ ms) (x ∷ xs) p e d = refl

pub test-first : (old now : List Node) (row : FunRow) (args : List ℕ) (test v m a : ℕ) → 0 < length args → length row.values ≡ length args → length row.masks ≡ length args
    → v ≡ slice_index row.values 0 → m ≡ slice_index row.masks 0 → a ≡ slice_index args 0 → OnlyGrows old now
    → IsMade now (position_test v m (term_at old a)) test → Testing old now row args test 1
test-first old now row args test v m a p e d v-is m-is a-is g made = record {
  grown = g;
  within = omega arith;
  there = made.there;
  narrow = ap width made.term;
  rest =
      let first = position_test (slice_index row.values 0) (slice_index row.masks 0) (term_at old (slice_index args 0)) in
      let is : term_at now test ≡ first = made.term ∙ ap (λ x. position_test x m (term_at old a)) v-is ∙ ap (λ x. position_test (slice_index row.values 0) x (term_at old a)) m-is
      ∙ ap (λ x. position_test (slice_index row.values 0) (slice_index row.masks 0) (term_at old x)) a-is in
      ap (λ t. fold (binary And) t (position_tests (drop 1 row.values) (drop 1 row.masks) (args_of (term_at old) (drop 1 args)))) is
      ∙ first-rest (term_at old) row.values row.masks args p e d;
}

pub test-step : (old now then new : List Node) (row : FunRow) (args : List ℕ) (test at next both v m a : ℕ) → at < length args → length row.values ≡ length args → length row.masks ≡ length args
    → AllByRecursion (λ i. i < length old) args
    → v ≡ slice_index row.values at → m ≡ slice_index row.masks at → a ≡ slice_index args at → Testing old now row args test at
    → OnlyGrows now then → OnlyGrows then new → IsMade then (position_test v m (term_at now a)) next → IsMade new (binary And (term_at then test) (term_at then next)) both
    → Testing old new row args both (at + 1)
test-step old now then new row args test at next both v m a l e d inside v-is m-is a-is h g k made joined =
    let more : suc at ≡ at + 1 = omega arith in
    let vs-is : drop at row.values ≡ v ∷ drop (at + 1) row.values = drop-cons row.values at 0 (omega arith) ∙ ap (λ x. x ∷ drop (suc at) row.values) (sym v-is) ∙ ap (λ n. v ∷ drop n row.values) more in
    let ms-is : drop at row.masks ≡ m ∷ drop (at + 1) row.masks = drop-cons row.masks at 0 (omega arith) ∙ ap (λ x. x ∷ drop (suc at) row.masks) (sym m-is) ∙ ap (λ n. m ∷ drop n row.masks) more in
    let xs-is : drop at args ≡ a ∷ drop (at + 1) args = drop-cons args at 0 l ∙ ap (λ x. x ∷ drop (suc at) args) (sym a-is) ∙ ap (λ n. a ∷ drop n args) more in
    let here : a < length old = subst (λ x. x < length old) (sym a-is) (below-at (length old) args at inside l) in
    let one : term_at then test ≡ term_at now test = g.kept.terms test h.there in
    let other : term_at then next ≡ position_test v m (term_at old a) = made.term ∙ ap (position_test v m) (h.grown.kept.terms a here) in
    let is : term_at new both ≡ binary And (term_at now test) (position_test v m (term_at old a))
    = joined.term ∙ ap (λ t. binary And t (term_at then next)) one ∙ ap (binary And (term_at now test)) other in
    record {
      grown = grows-both old now new h.grown (grows-both now then new g k);
      within = omega arith;
      there = joined.there;
      narrow = ap width is ∙ h.narrow;
      rest =
          ap (λ t. fold (binary And) t (position_tests (drop (at + 1) row.values) (drop (at + 1) row.masks) (args_of (term_at old) (drop (at + 1) args)))) is
          ∙ sym (ap (λ xs. fold (binary And) (term_at now test) (position_tests xs (drop at row.masks) (args_of (term_at old) (drop at args)))) vs-is
          ∙ ap (λ xs. fold (binary And) (term_at now test) (position_tests (v ∷ drop (at + 1) row.values) xs (args_of (term_at old) (drop at args)))) ms-is
          ∙ ap (λ xs. fold (binary And) (term_at now test) (position_tests (v ∷ drop (at + 1) row.values) (m ∷ drop (at + 1) row.masks) (args_of (term_at old) xs))) xs-is)
          ∙ h.rest;
    }

no-tests : (f : ℕ → Term) (vs ms : List ℕ) → position_tests vs ms (args_of f []) ≡ []
no-tests f [] ms = refl
no-tests f (v ∷ vs) [] = refl
no-tests f (v ∷ vs) (m ∷ ms) = refl

pub test-last : (old now : List Node) (row : FunRow) (args : List ℕ) (test at : ℕ) → length args ≤ at → Testing old now row args test at
    → IsMade now (row_test row (args_of (term_at old) args)) test
test-last old now row args test at l h =
    let none : drop at args ≡ [] = (let w = h.within in let s : at ≡ length args = omega arith in ap (λ n. drop n args) s ∙ drop-length args) in
    record {
      there = h.there;
      term = sym (ap (λ xs. fold (binary And) (term_at now test) (position_tests (drop at row.values) (drop at row.masks) (args_of (term_at old) xs))) none
          ∙ ap (fold (binary And) (term_at now test)) (no-tests (term_at old) (drop at row.values) (drop at row.masks))) ∙ h.rest;
    }

-- a row without positions
pub test-none : (old now : List Node) (row : FunRow) (args : List ℕ) (id : ℕ) (b : Bits) → args ≡ [] → b.width ≡ 1 → b.value ≡ 1 → IsMade now (number_term b) id
    → IsMade now (row_test row (args_of (term_at old) args)) id
test-none old now row args id b none w v made = record {
  there = made.there;
  term = made.term ∙ ap (λ k. constant k b.value) w ∙ ap (constant 1) v
      ∙ sym (ap (λ xs. chain And (constant 1 1) (position_tests row.values row.masks (args_of (term_at old) xs))) none
      ∙ ap (chain And (constant 1 1)) (no-tests (term_at old) row.values row.masks));
}

-- ---- the rows of a table

-- what holds of each row
pub row-at : (P : FunRow → Type 0) (rows : List FunRow) (i : ℕ) (row : FunRow) → i < length rows → row ≡ get_or rows i row → AllByRecursion P rows → P row
row-at P [] i row l e h = absurd (omega (arith, l))
row-at P (r ∷ rows) zero row l e h = subst P (sym e) h.0
row-at P (r ∷ rows) (suc i) row l e h = row-at P rows i row (omega (arith, l)) e h.1

-- the rows from a place on are choices
pub record Choosing (old now : List Node) (t : FunTable) (args : List ℕ) (choices at : ℕ) : Type 0 where
  pub grown : OnlyGrows old now
  pub within : at ≤ length t.rows
  pub made : IsMade now (picks (drop at t.rows) t.default (args_of (term_at old) args)) choices
  pub width : width_at now choices ≡ t.default.width

pub choose-first : (old now : List Node) (t : FunTable) (args : List ℕ) (choices at : ℕ) → at ≡ length t.rows → OnlyGrows old now → IsMade now (number_term t.default) choices
    → Choosing old now t args choices at
choose-first old now t args choices at e g made =
    let none : drop at t.rows ≡ [] = ap (λ n. drop n t.rows) e ∙ drop-length t.rows in
    record {
      grown = g;
      within = omega arith;
      made = record { there = made.there; term = made.term ∙ sym (ap (λ rows. picks rows t.default (args_of (term_at old) args)) none) };
      width = ap width made.term;
    }

pub choose-step : (old now new : List Node) (t : FunTable) (args : List ℕ) (choices at next : ℕ) (row : FunRow) → 0 < at → row ≡ get_or t.rows (at - 1) row → row.result.width ≡ t.default.width
    → AllByRecursion (λ i. i < length old) args → Choosing old now t args choices at → OnlyGrows now new
    → IsMade new (pick (row_test row (args_of (term_at now) args)) (number_term row.result) (term_at now choices)) next → Choosing old new t args next (at - 1)
choose-step old now new t args choices at next row p row-is w inside h g made =
    let less : suc (at - 1) ≡ at = omega arith in
    let more : drop (at - 1) t.rows ≡ row ∷ drop at t.rows
    = (let b = h.within in drop-cons t.rows (at - 1) row (omega arith)) ∙ ap (λ r. r ∷ drop (suc (at - 1)) t.rows) (sym row-is) ∙ ap (λ n. row ∷ drop n t.rows) less in
    let same = args-kept old now args h.grown inside in
    let is : term_at new next ≡ picks (drop (at - 1) t.rows) t.default (args_of (term_at old) args)
    = made.term ∙ ap (λ xs. pick (row_test row xs) (number_term row.result) (term_at now choices)) same
    ∙ ap (pick (row_test row (args_of (term_at old) args)) (number_term row.result)) h.made.term
    ∙ sym (ap (λ rows. picks rows t.default (args_of (term_at old) args)) more) in
    record {
      grown = grows-both old now new h.grown g;
      within = (let b = h.within in omega arith);
      made = record { there = made.there; term = is };
      width = ap width made.term ∙ w;
    }

pub choose-last : (old now : List Node) (t : FunTable) (args : List ℕ) (choices at : ℕ) → at ≡ 0 → Choosing old now t args choices at
    → IsMade now (picks t.rows t.default (args_of (term_at old) args)) choices
choose-last old now t args choices at z h = subst (λ n. IsMade now (picks (drop n t.rows) t.default (args_of (term_at old) args)) choices) z h.made

-- the width of a test
joined-width : (first : Term) (vs ms : List ℕ) (ts : Args) → width first ≡ 1 → width (fold (binary And) first (position_tests vs ms ts)) ≡ 1
joined-width first [] ms ts e = e
joined-width first (v ∷ vs) [] ts e = e
joined-width first (v ∷ vs) (m ∷ ms) no_args e = e
joined-width first (v ∷ vs) (m ∷ ms) (arg t ts) e = joined-width (binary And first (position_test v m t)) vs ms ts e

chain-width : (vs ms : List ℕ) (ts : Args) → width (chain And (constant 1 1) (position_tests vs ms ts)) ≡ 1
chain-width [] ms ts = refl
chain-width (v ∷ vs) [] ts = refl
chain-width (v ∷ vs) (m ∷ ms) no_args = refl
chain-width (v ∷ vs) (m ∷ ms) (arg t ts) = joined-width (position_test v m t) vs ms ts refl

pub test-width : (row : FunRow) (ts : Args) → width (row_test row ts) ≡ 1
test-width row ts = chain-width row.values row.masks ts
