-- Tables that are looked up by the values of their rows: the first row with the values of the arguments is the first that
-- matches, where each row compares all bits.
use Rattle.std.proofs.Common.{◌≡◌, ℕ, zero, suc, ◌+◌, ◌-◌, ◌^◌, ◌<◌, ◌==◌, ◌&&◌, bit_and, Bool, true, false, List, [], ◌∷◌, ◌++◌, All, length, get_or, take, slice_get, Option, Some, None, if◌then◌else◌, arith, refl, sym, ap, ap₂, subst, ◌∙◌, Bor}
use Rattle.std.specs.Prelude.{option_map}
use Rattle.std.specs.List.{AllZip}
use Rattle.std.proofs.lemmas.List.Elements.{All-head, All-tail, All-push}
use Rattle.std.proofs.lemmas.List.{map-append, take_more}
use Rattle.std.proofs.lemmas.Option.{slice_get-get_or}
use Rattle.cocoon_num.specs.FunTables.{row_matches}
use Rattle.cocoon_num.specs.Names.{same_name}
use Rattle.cocoon_num.specs.Rows.{values_match, first_match, has_bits}
use Rattle.cocoon_num.specs.Values.{fits_width}
use Rattle.cocoon_num.specs.declared.bits.Bits.{Bits}
use Rattle.cocoon_num.specs.declared.fun_table.FunRow.{FunRow}
use Rattle.cocoon_num.specs.declared.fun_table.FunTable.{FunTable}
use Rattle.numbering.specs.KeyPlaces.{first_place}
use Rattle.numbering.specs.declared.key_table.KeyTable.{KeyTable}
use Rattle.runtime_defs.specs.Places.{all_fit_widths, table_at}
use Rattle.runtime_defs.specs.RowKeys.{ComparesAll, compares_all, IsKeyed, MayBeKeyed, row_keys}
use Rattle.runtime_defs.proofs.Looking.{both-true, kept, number-is}

one-key : (w v m x : ℕ) → fits_width w v ≡ true → (m == 2 ^ w - 1) ≡ true → fits_width w x ≡ true → has_bits v m x ≡ (x == v)
one-key w v m x f e h =
    let is : m ≡ 2 ^ w - 1 = number-is m (2 ^ w - 1) e in
    ap₂ (λ a b. a == b) (ap (bit_and x) is ∙ kept w x h) (ap (bit_and v) is ∙ kept w v f)

same-keys : (ws vs ms xs : List ℕ) → compares_all ws vs ms ≡ true → all_fit_widths ws xs ≡ true → values_match vs ms xs ≡ same_name xs vs
same-keys [] [] [] [] c h = refl
same-keys [] [] [] (x ∷ xs) c h = absurd cc
same-keys [] [] (m ∷ ms) xs c h = absurd cc
same-keys [] (v ∷ vs) ms xs c h = absurd cc
same-keys (w ∷ ws) [] ms xs c h = absurd cc
same-keys (w ∷ ws) (v ∷ vs) [] xs c h = absurd cc
same-keys (w ∷ ws) (v ∷ vs) (m ∷ ms) [] c h = absurd cc
same-keys (w ∷ ws) (v ∷ vs) (m ∷ ms) (x ∷ xs) c h =
    let cs = both-true (fits_width w v && (m == 2 ^ w - 1)) (compares_all ws vs ms) c in
    let one = both-true (fits_width w v) (m == 2 ^ w - 1) cs.0 in
    let hs = both-true (fits_width w x) (all_fit_widths ws xs) h in
    ap₂ (◌&&◌) (one-key w v m x one.0 one.1 hs.0) (same-keys ws vs ms xs cs.1 hs.1)

-- the result of the row at a place
abbrev pub given : List FunRow → Bits → Option ℕ → Bits
given rows d None = d
given rows d (Some i) = elim (slice_get rows i) [ None ↦ d | Some row ↦ row.result ]

pub keyed-look : (ws xs : List ℕ) (rows : List FunRow) (d : Bits) → All (ComparesAll ws) rows → all_fit_widths ws xs ≡ true
    → first_match (row_matches xs) (λ (row : FunRow). row.result) rows d ≡ given rows d (first_place xs (row_keys rows))
keyed-look ws xs [] d a h = refl
keyed-look ws xs (row ∷ rows) d a h =
    ap₂ (λ b r. if b then row.result else r) (same-keys ws row.values row.masks xs (All-head (ComparesAll ws) row rows a) h) (keyed-look ws xs rows d (All-tail (ComparesAll ws) row rows a) h)
    ∙ by (same_name xs row.values) (first_place xs (row_keys rows))
  where
    by : (b : Bool) (o : Option ℕ) → (if b then row.result else given rows d o) ≡ given (row ∷ rows) d (if b then Some 0 else option_map suc o)
    by true o = refl
    by false None = refl
    by false (Some i) = refl

-- a place is one of the rows
past-first : (b : Bool) (o : Option ℕ) (n i : ℕ) → ((j : ℕ) → o ≡ Some j → j < n) → (if b then Some 0 else option_map suc o) ≡ Some i → i < suc n
past-first true o n i h q = let is : zero ≡ i = cc in subst (λ k. k < suc n) is (omega arith)
past-first false None n i h q = absurd cc
past-first false (Some j) n i h q =
    let is : suc j ≡ i = cc in
    let less : j < n = h j refl in
    subst (λ k. k < suc n) is (omega (arith, less))

-- a place is one of the keys
pub place-within : (x : List ℕ) (ks : List (List ℕ)) (i : ℕ) → first_place x ks ≡ Some i → i < length ks
place-within x [] i h = absurd cc
place-within x (k ∷ ks) i h = past-first (same_name x k) (first_place x ks) (length ks) i (λ j e. place-within x ks j e) h

-- ---- keys that are kept

pub keyed-here : (places : List (Option FunTable)) (keys : List (Option KeyTable)) (k : ℕ) (t : FunTable) → AllZip MayBeKeyed places keys → table_at places k ≡ Some t
    → (o : Option KeyTable) × (slice_get keys k ≡ Some o) × IsKeyed t o
keyed-here [] [] k t z h = absurd cc
keyed-here [] (o ∷ keys) k t z h = absurd z
keyed-here (p ∷ places) [] k t z h = absurd z
keyed-here (p ∷ places) (o ∷ keys) zero t z h = let is : p ≡ Some t = h in (o, refl, subst (λ q. MayBeKeyed q o) is z.0)
keyed-here (p ∷ places) (o ∷ keys) (suc k) t z h = keyed-here places keys k t z.1 h

pub there-within : {A : Type 0} (xs : List A) (k : ℕ) (x : A) → slice_get xs k ≡ Some x → k < length xs
there-within [] k x h = absurd cc
there-within (y ∷ ys) zero x h = omega arith
there-within (y ∷ ys) (suc k) x h = let less : k < length ys = there-within ys k x h in omega (arith, less)

-- the row at a place that a key has
pub given-at : (rows : List FunRow) (d : Bits) (i : ℕ) (other : FunRow) → i < length rows → given rows d (Some i) ≡ (get_or rows i other).result
given-at rows d i other h = ap (λ o. elim o [ None ↦ d | Some row ↦ row.result ]) (slice_get-get_or rows i other h)

-- the table that was found is the one at its place
pub same-some : (found : Option (Bor FunTable)) (u : Bor FunTable) (places : List (Option FunTable)) (k : ℕ) (t : FunTable) → found ≡ Some u
    → option_map (λ x. x.now) found ≡ table_at places k → table_at places k ≡ Some t → t ≡ u.now
same-some found u places k t f m h = let both : Some t ≡ Some u.now = sym h ∙ sym m ∙ ap (option_map (λ x. x.now)) f in cc

-- ---- rows one by one

pub row-added : (ws : List ℕ) (rows : List FunRow) (i : ℕ) (row : FunRow) → i < length rows → row ≡ get_or rows i row
    → All (ComparesAll ws) (take i rows) → ComparesAll ws row → All (ComparesAll ws) (take (i + 1) rows)
row-added ws rows i row less is a c =
    subst (All (ComparesAll ws)) (ap (λ r. take i rows ++ r ∷ []) is ∙ sym (take_more rows i row less)) (All-push (ComparesAll ws) (take i rows) row a c)

pub keys-added : (rows : List FunRow) (i : ℕ) (row : FunRow) → i < length rows → row ≡ get_or rows i row
    → row_keys (take i rows) ++ row.values ∷ [] ≡ row_keys (take (i + 1) rows)
keys-added rows i row less is =
    sym (map-append (λ (r : FunRow). r.values) (take i rows) (row ∷ [])) ∙ ap row_keys (ap (λ r. take i rows ++ r ∷ []) is ∙ sym (take_more rows i row less))
