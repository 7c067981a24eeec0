-- What the entries of a map hold under a name, before and after one is set.
use Rattle.std.proofs.Common.{◌≡◌, ℕ, List, [], ◌∷◌, Bool, true, false, cond, Option, Some, Vec, String, option_map, refl, sym, ap, ◌∙◌}
use Rattle.std.specs.declared.alloc.Global.{Global}
use Rattle.std.specs.String.{string_bytes, string_cmp}
use Rattle.std.specs.Ordering.{nat_cmp, eq_by_cmp}
use Rattle.std.specs.Cmp.{eq_by_cmp_equiv}
use Rattle.std.specs.Cmp.Lexicographic.{slice_cmp, nat_list_cmp_total}
use Rattle.std.specs.Map.{lookup}
use Rattle.std.specs.BTreeMap.{BTreeMap, is_at, UpdatesBy}
use Rattle.std.specs.Str.{bytes_eq}
use Rattle.std.proofs.lemmas.Map.Text.{btree_map_updates_text, is_eq-slice_cmp}
use Rattle.std.specs.FinMap.{get, insert, find, get-from_entries, get-insert, same_map, slice_cmp-IsAntisymmetric, nat_cmp-IsAntisymmetric}
use Rattle.cocoon_io.specs.Entries.{pairs_of, files_of}

-- the bytes that a map's entries have under a name
abbrev pub vec_at : List (String Global × Vec ℕ Global) → List ℕ → Option (Vec ℕ Global)
vec_at es name = lookup (is_at (λ k. slice_cmp nat_cmp name (string_bytes k))) es

abbrev pub bytes_at : List (String Global × Vec ℕ Global) → List ℕ → Option (List ℕ)
bytes_at es name = option_map (λ v. v.items) (vec_at es name)

map_cond : (b : Bool) (x : Vec ℕ Global) (m : Option (Vec ℕ Global)) (n : Option (List ℕ))
    → n ≡ option_map (λ v. v.items) m
    → cond b (Some x.items) n ≡ option_map (λ v. v.items) (cond b (Some x) m)
map_cond true x m n e = refl
map_cond false x m n e = e

find_pairs : (es : List (String Global × Vec ℕ Global)) (q : List ℕ)
    → find (slice_cmp nat_cmp) q (pairs_of es) ≡ bytes_at es q
find_pairs [] q = refl
find_pairs (e ∷ es) q = map_cond _ e.1 (vec_at es q) _ (find_pairs es q)

-- what the files that the entries make have under a name
pub get_file : (es : List (String Global × Vec ℕ Global)) (q : List ℕ)
    → get (files_of es) q ≡ bytes_at es q
get_file es q = get-from_entries nat_list_cmp_total (pairs_of es) q ∙ find_pairs es q

-- entries that differ at one name make files that differ there
pub one_placed : (es fs : List (String Global × Vec ℕ Global)) (name bytes : List ℕ)
    → ((q : List ℕ) → bytes_at fs q
    ≡ cond (eq_by_cmp (slice_cmp nat_cmp) q name) (Some bytes) (bytes_at es q))
    → files_of fs ≡ insert (files_of es) name bytes
one_placed es fs name bytes h = same_map nat_list_cmp_total (slice_cmp-IsAntisymmetric nat_cmp-IsAntisymmetric) _ _ (λ q.
    get_file fs q ∙ h q
    ∙ sym (get-insert nat_list_cmp_total (files_of es) name bytes q ∙ ap (cond (eq_by_cmp (slice_cmp nat_cmp) q name) (Some bytes)) (get_file es q)))

split : (b : Bool) (v : Vec ℕ Global) (o : Option (Vec ℕ Global))
    → option_map (λ v. v.items) (cond b (Some v) o) ≡ cond b (Some v.items) (option_map (λ v. v.items) o)
split true v o = refl
split false v o = refl

cond_same : (b d : Bool) → b ≡ d → (x y : List ℕ) (o : Option (List ℕ))
    → x ≡ y → cond b (Some x) o ≡ cond d (Some y) o
cond_same b d e x y o h = cc

-- a map that is updated at one name makes files that have its bytes there
pub placed : (m n : BTreeMap (String Global) (Vec ℕ Global)) (name bytes : List ℕ)
    (k : String Global) (v : Vec ℕ Global)
    → UpdatesBy string_cmp (string_cmp k) m n (Some v) → string_bytes k ≡ name → v.items ≡ bytes
    → files_of n.entries ≡ insert (files_of m.entries) name bytes
placed m n name bytes k v up named held = one_placed m.entries n.entries name bytes (λ q.
    ap (option_map (λ v. v.items)) (btree_map_updates_text (string_bytes k) m n (Some v) up q)
    ∙ split (bytes_eq (string_bytes k) q) v (vec_at m.entries q)
    ∙ cond_same (bytes_eq (string_bytes k) q) _ (sym (is_eq-slice_cmp (string_bytes k) q) ∙ ap (λ t. eq_by_cmp (slice_cmp nat_cmp) t q) named ∙ (eq_by_cmp_equiv nat_list_cmp_total).symm name q) v.items bytes (bytes_at m.entries q) held)
