-- The text of a well-kinded program: its declarations break no rule, and it stands for the program.
use Rattle.std.specs.Prelude.{◌≡◌, ℕ, suc, ◌-◌, ◌^◌, ◌%◌, ◌<◌, ◌&&◌, ◌||◌, ◌==◌, Bool, true, false, not, nat_le, nat_lt, List, [], ◌∷◌, ◌++◌, length, map, codes, decimal, refl}
use Rattle.std.proofs.Common.{sym, ap, ap₂, ◌∙◌, arith, append_assoc}
use Rattle.std.proofs.lemmas.Bool.{and_parts, and_from}
use Rattle.std.proofs.lemmas.Bool.Decides.{nat_tests}
use Rattle.std.proofs.lemmas.List.{length-map}
use Rattle.cocoon_num.specs.Lists.{all_distinct, ascend, each, is_one_of}
use Rattle.cocoon_num.specs.Names.{same_name}
use Rattle.cocoon_num.specs.Packets.{total}
use Rattle.cocoon_num.specs.Sorts.{is_declared_width}
use Rattle.cocoon_num.specs.Tokens.{Kind, is_run}
use Rattle.p4_ir.specs.P4Kinds.{block_fits, is_meta_name, kinds_fit, names_fit, numbers_of, table_fits, tables_fit, widths_fit}
use Rattle.p4_ir.specs.P4Tree.{P4Field, P4Header, P4Table, P4Block, Control, Program, field_widths, meta_width}
use Rattle.p4_texts.specs.KindFaults.{Piece, action_keeps, block_pieces, field_keeps, field_pieces, header_keeps, header_pieces, kind_faults, least_after, line_pieces, member_pieces, meta_keeps, meta_pieces, stands_in, table_keeps, table_pieces}
use Rattle.p4_texts.specs.Meant.{field_meant, header_meant, is_exact, key_names, meta_at, meta_meant, number_in, program_of_text, table_meant}
use Rattle.p4_texts.specs.TextOf.{block_written, control_written, field_written, header_written, keys_written, line_written, member_written, meta_name, meta_written, table_written, text_of_program}
use Rattle.p4_texts.specs.Written.{Lines, TableText, emit_then, extract_then}
use Rattle.p4_texts.proofs.Back.{Named, alike, inside, map_twice, meta_back}
use Rattle.p4_texts.proofs.BackKept.{BlockBack, below, block_back}
use Rattle.p4_texts.proofs.Decimal.{number_after}
use Rattle.p4_texts.proofs.Fits.{TextKept, none_where_kept}
use Rattle.p4_texts.proofs.Kept.{header_named, header_wide, kept, kept_both}
use Rattle.p4_texts.proofs.Lists.{name_is, same_self, same_symm}
use Rattle.p4_texts.proofs.SaidWhole.{within_some}

-- ---- names that are new

not_later : (ys xs : List (List ℕ)) (x y : List ℕ) → not (is_one_of (ys ++ (x ∷ xs)) y) ≡ true → same_name x y ≡ false
not_later [] xs x y h = by (same_name x y) (is_one_of xs y) h
  where
    by : (a b : Bool) → not (a || b) ≡ true → a ≡ false
    by true b h = absurd cc
    by false b h = refl
not_later (z ∷ ys) xs x y h = not_later ys xs x y (by (same_name z y) (is_one_of (ys ++ (x ∷ xs)) y) h)
  where
    by : (a b : Bool) → not (a || b) ≡ true → not b ≡ true
    by true b h = absurd cc
    by false b h = h

new_after : (ys xs : List (List ℕ)) (x : List ℕ) → all_distinct (ys ++ (x ∷ xs)) ≡ true → not (is_one_of ys x) ≡ true
new_after [] xs x h = refl
new_after (y ∷ ys) xs x h =
    let p = and_parts (not (is_one_of (ys ++ (x ∷ xs)) y)) (all_distinct (ys ++ (x ∷ xs))) h in
    let other : same_name y x ≡ false = same_symm y x ∙ not_later ys xs x y p.0 in
    ap (λ b. not (b || is_one_of ys x)) other ∙ new_after ys xs x p.1

-- ---- fields, headers and lines

three_from : (a b c : Bool) → a ≡ true → b ≡ true → c ≡ true → (a && b && c) ≡ true
three_from a b c h k l = and_from (a && b) c (and_from a b h k) l

fields_back : (before : List (List ℕ)) (fs : List P4Field) → each (λ (f : P4Field). is_run f.name) fs ≡ true → all_distinct (before ++ map (λ (f : P4Field). f.name) fs) ≡ true
    → each is_declared_width (field_widths fs) ≡ true → kept (field_pieces before (map field_written fs)) ≡ true
fields_back before [] h d w = refl
fields_back before (f ∷ fs) h d w =
    let p = and_parts (is_run f.name) (each (λ (f : P4Field). is_run f.name) fs) h in
    let q = and_parts (is_declared_width f.width) (each is_declared_width (field_widths fs)) w in
    and_from (field_keeps before f) (kept (field_pieces (before ++ (f.name ∷ [])) (map field_written fs)))
    (three_from (is_run f.name) (not (is_one_of before f.name)) (is_declared_width f.width) p.0 (new_after before (map (λ (f : P4Field). f.name) fs) f.name d) q.0)
    (fields_back (before ++ (f.name ∷ [])) fs p.1 (ap all_distinct (append_assoc before (f.name ∷ []) (map (λ (f : P4Field). f.name) fs)) ∙ d) q.1)

metas_back : (before : List (List ℕ)) (fs : List P4Field) → each (λ (f : P4Field). is_meta_name f.name) fs ≡ true → all_distinct (before ++ map (λ (f : P4Field). f.name) fs) ≡ true
    → each is_declared_width (field_widths fs) ≡ true → kept (meta_pieces before (map meta_written fs)) ≡ true
metas_back before [] h d w = refl
metas_back before (f ∷ fs) h d w =
    let p = and_parts (is_meta_name f.name) (each (λ (f : P4Field). is_meta_name f.name) fs) h in
    let q = and_parts (is_declared_width f.width) (each is_declared_width (field_widths fs)) w in
    and_from (meta_keeps before f) (kept (meta_pieces (before ++ (f.name ∷ [])) (map meta_written fs)))
    (three_from (is_meta_name f.name) (not (is_one_of before f.name)) (is_declared_width f.width) p.0 (new_after before (map (λ (f : P4Field). f.name) fs) f.name d) q.0)
    (metas_back (before ++ (f.name ∷ [])) fs p.1 (ap all_distinct (append_assoc before (f.name ∷ []) (map (λ (f : P4Field). f.name) fs)) ∙ d) q.1)

pub header_same : (h : P4Header) → header_meant (header_written h) ≡ h
header_same h = ap (λ fs. record { name = h.name; fields = fs }) (alike field_written field_meant (λ f. refl) h.fields)

headers_back : (before : List (List ℕ)) (hs : List P4Header) → each header_named hs ≡ true → all_distinct (before ++ map (λ (h : P4Header). h.name) hs) ≡ true
    → each header_wide hs ≡ true → kept (header_pieces before (map header_written hs)) ≡ true
headers_back before [] n d w = refl
headers_back before (h ∷ hs) n d w =
    let p = and_parts (header_named h) (each header_named hs) n in
    let q = and_parts (header_wide h) (each header_wide hs) w in
    let r = and_parts (is_run h.name && each (λ (f : P4Field). is_run f.name) h.fields) (all_distinct (map (λ (f : P4Field). f.name) h.fields)) p.0 in
    let s = and_parts (is_run h.name) (each (λ (f : P4Field). is_run f.name) h.fields) r.0 in
    let u = and_parts (each is_declared_width (field_widths h.fields)) (total (field_widths h.fields) % 8 == 0) q.0 in
    let later : List Piece = header_pieces (before ++ (h.name ∷ [])) (map header_written hs) in
    and_from (header_keeps before (header_meant (header_written h))) (kept (field_pieces [] (map field_written h.fields) ++ (_ ∷ later)))
    (ap (header_keeps before) (header_same h) ∙ three_from (is_run h.name) (not (is_one_of before h.name)) (total (field_widths h.fields) % 8 == 0) s.0 (new_after before (map (λ (h : P4Header). h.name) hs) h.name d) u.1)
    (kept_both (field_pieces [] (map field_written h.fields)) (_ ∷ later) (fields_back [] h.fields s.1 r.1 u.0)
    (headers_back (before ++ (h.name ∷ [])) hs p.1 (ap all_distinct (append_assoc before (h.name ∷ []) (map (λ (h : P4Header). h.name) hs)) ∙ d) q.1))

members_back : (hs : List P4Header) → kept (member_pieces hs (map member_written hs)) ≡ true
members_back [] = refl
members_back (h ∷ hs) =
    and_from (same_name (codes "ht_" ++ h.name) (codes "ht_" ++ h.name) && same_name (codes "h_" ++ h.name) (codes "h_" ++ h.name)) (kept (member_pieces hs (map member_written hs)))
    (and_from (same_name (codes "ht_" ++ h.name) (codes "ht_" ++ h.name)) (same_name (codes "h_" ++ h.name) (codes "h_" ++ h.name)) (same_self (codes "ht_" ++ h.name)) (same_self (codes "h_" ++ h.name)))
    (members_back hs)

lines_back : (line : List ℕ → List Kind → List Kind) (hs : List P4Header) → kept (line_pieces line hs (map line_written hs)) ≡ true
lines_back line [] = refl
lines_back line (h ∷ hs) = and_from (same_name (codes "h_" ++ h.name) (codes "h_" ++ h.name)) (kept (line_pieces line hs (map line_written hs))) (same_self (codes "h_" ++ h.name)) (lines_back line hs)

-- ---- tables

keys_back : (p : Program) → Named p → (ks : List ℕ) → each (λ i. nat_lt i (length p.meta)) ks ≡ true → map (meta_at (text_of_program p)) (map (meta_name p) ks) ≡ ks
keys_back p n [] h = refl
keys_back p n (k ∷ ks) h =
    let q = and_parts (nat_lt k (length p.meta)) (each (λ i. nat_lt i (length p.meta)) ks) h in
    ap₂ (λ x xs. x ∷ xs) (meta_back p k n (within_some p.meta k q.0)) (keys_back p n ks q.1)

names_back : (exact : Bool) (xs : List (List ℕ)) → key_names (keys_written exact xs) ≡ xs
names_back exact [] = refl
names_back exact (x ∷ xs) = refl

exact_back : (exact : Bool) (f : ℕ → List ℕ) (ks : List ℕ) → not (length ks == 0) ≡ true → is_exact (keys_written exact (map f ks)) ≡ exact
exact_back exact f [] h = absurd cc
exact_back exact f (k ∷ ks) h = refl

record TableParts (p : Program) (x : P4Table) : Type 0 where
  some : not (length x.keys == 0) ≡ true
  keys : each (λ i. nat_lt i (length p.meta)) x.keys ≡ true
  result : nat_lt x.result (length p.meta) ≡ true
  small : nat_lt x.number (2 ^ 32 - 1) ≡ true

table_parts : (p : Program) (x : P4Table) → table_fits p x ≡ true → TableParts p x
table_parts p x h =
    let a = and_parts (not (length x.keys == 0) && each (λ i. nat_lt i (length p.meta)) x.keys && nat_lt x.result (length p.meta)) (nat_lt x.number (2 ^ 32 - 1)) h in
    let b = and_parts (not (length x.keys == 0) && each (λ i. nat_lt i (length p.meta)) x.keys) (nat_lt x.result (length p.meta)) a.0 in
    let c = and_parts (not (length x.keys == 0)) (each (λ i. nat_lt i (length p.meta)) x.keys) b.0 in
    record { some = c.0; keys = c.1; result = b.1; small = a.1 }

abbrev table_with : ℕ → Bool → List ℕ → ℕ → P4Table
table_with n e ks r = record { number = n; exact = e; keys = ks; result = r }

pub table_same : (p : Program) → Named p → (x : P4Table) → table_fits p x ≡ true → table_meant (text_of_program p) (table_written p x) ≡ x
table_same p n x h =
    let q = table_parts p x h in
    let t = text_of_program p in
    let at : number_in (codes "a" ++ decimal x.number) ≡ x.number = number_after 97 x.number (below x.number q.small) in
    let exact : is_exact (keys_written x.exact (map (meta_name p) x.keys)) ≡ x.exact = exact_back x.exact (meta_name p) x.keys q.some in
    let keys : map (meta_at t) (key_names (keys_written x.exact (map (meta_name p) x.keys))) ≡ x.keys = ap (map (meta_at t)) (names_back x.exact (map (meta_name p) x.keys)) ∙ keys_back p n x.keys q.keys in
    let result : meta_at t (meta_name p x.result) ≡ x.result = meta_back p x.result n (within_some p.meta x.result q.result) in
    ap₂ (λ (a : ℕ) (b : Bool). table_with a b (map (meta_at t) (key_names (keys_written x.exact (map (meta_name p) x.keys)))) (meta_at t (meta_name p x.result))) at exact
    ∙ ap₂ (λ (a : List ℕ) (b : ℕ). table_with x.number x.exact a b) keys result

pub tables_same : (p : Program) → Named p → (xs : List P4Table) → each (table_fits p) xs ≡ true → map (table_meant (text_of_program p)) (map (table_written p) xs) ≡ xs
tables_same p n [] h = refl
tables_same p n (x ∷ xs) h =
    let q = and_parts (table_fits p x) (each (table_fits p) xs) h in
    ap₂ (λ y ys. y ∷ ys) (table_same p n x q.0) (tables_same p n xs q.1)

-- ---- numbers that ascend

through : (a b c : ℕ) → nat_lt a b ≡ true → nat_lt b c ≡ true → nat_lt a c ≡ true
through a b c h k = grind (arith, nat_tests, h, k)

next_is : (m n : ℕ) → nat_lt m n ≡ true → nat_le (suc m) n ≡ true
next_is m n h = grind (arith, nat_tests, h)

least_is : (ms ns : List ℕ) (n : ℕ) → ascend (ms ++ (n ∷ ns)) ≡ true → nat_le (least_after ms) n ≡ true
least_is [] ns n h = from_none n
  where
    from_none : (n : ℕ) → nat_le 0 n ≡ true
    from_none n = grind (arith, nat_tests)
least_is (m ∷ []) ns n h = next_is m n (and_parts (nat_lt m n) (ascend (n ∷ ns)) h).0
least_is (l ∷ m ∷ ms) ns n h = least_is (m ∷ ms) ns n (and_parts (nat_lt l m) (ascend (m ∷ (ms ++ (n ∷ ns)))) h).1

all_below : (ms ns : List ℕ) (n : ℕ) → ascend (ms ++ (n ∷ ns)) ≡ true → each (λ m. nat_lt m n) ms ≡ true
all_below [] ns n h = refl
all_below (m ∷ []) ns n h = and_from (nat_lt m n) true (and_parts (nat_lt m n) (ascend (n ∷ ns)) h).0 refl
all_below (l ∷ m ∷ ms) ns n h =
    let p = and_parts (nat_lt l m) (ascend (m ∷ (ms ++ (n ∷ ns)))) h in
    let rest = all_below (m ∷ ms) ns n p.1 in
    and_from (nat_lt l n) (each (λ m. nat_lt m n) (m ∷ ms)) (through l m n p.0 (and_parts (nat_lt m n) (each (λ m. nat_lt m n) ms) rest).0) rest

abbrev act : ℕ → List ℕ
act n = codes "a" ++ decimal n

other_action : (m n : ℕ) → nat_lt m n ≡ true → n < 2 ^ 32 → same_name (act m) (act n) ≡ false
other_action m n h l = by (same_name (act m) (act n)) refl
  where
    less : m < n
    less = grind (arith, nat_tests, h)

    by : (b : Bool) → same_name (act m) (act n) ≡ b → same_name (act m) (act n) ≡ false
    by false e = e
    by true e =
        let same : m ≡ n = sym (number_after 97 m (omega (arith, less, l))) ∙ ap number_in (name_is (act m) (act n) e) ∙ number_after 97 n l in
        absurd (omega (arith, less, same))

new_action : (ms : List ℕ) (n : ℕ) → each (λ m. nat_lt m n) ms ≡ true → n < 2 ^ 32 → not (is_one_of (map act ms) (act n)) ≡ true
new_action [] n h l = refl
new_action (m ∷ ms) n h l =
    let p = and_parts (nat_lt m n) (each (λ m. nat_lt m n) ms) h in
    ap (λ b. not (b || is_one_of (map act ms) (act n))) (other_action m n p.0 l) ∙ new_action ms n p.1 l

map_joined : (ms : List ℕ) (n : ℕ) → map act ms ++ (act n ∷ []) ≡ map act (ms ++ (n ∷ []))
map_joined [] n = refl
map_joined (m ∷ ms) n = ap (λ z. act m ∷ z) (map_joined ms n)

self_equal : (n : ℕ) → (n == n) ≡ true
self_equal n = grind (arith, nat_tests)

action_back : (p : Program) → Named p → program_of_text (text_of_program p) ≡ p → (ms ns : List ℕ) (x : P4Table) → table_fits p x ≡ true → ascend (ms ++ (x.number ∷ ns)) ≡ true
    → action_keeps (text_of_program p) (map act ms) (table_written p x) ≡ true
action_back p n e ms ns x h r =
    let t = text_of_program p in
    let k = table_written p x in
    let q = table_parts p x h in
    let l = below x.number q.small in
    let result : meta_at t (meta_name p x.result) ≡ x.result = meta_back p x.result n (within_some p.meta x.result q.result) in
    let named = same_name (act x.number) (act (number_in (act x.number))) in
    let new = not (is_one_of (map act ms) (act x.number)) in
    let there = nat_lt (meta_at t (meta_name p x.result)) (length (map meta_written p.meta)) in
    let wide = (meta_width p x.result) == meta_width (program_of_text t) (meta_at t (meta_name p x.result)) in
    and_from (named && new && there) wide
    (and_from (named && new) there
    (and_from named new (ap (λ z. same_name (act x.number) (act z)) (number_after 97 x.number l) ∙ same_self (act x.number)) (new_action ms x.number (all_below ms ns x.number r) l))
    (ap₂ nat_lt result (length-map p.meta meta_written) ∙ q.result))
    (ap₂ (λ (a : Program) (b : ℕ). (meta_width p x.result) == meta_width a b) e result ∙ self_equal (meta_width p x.result))

table_back : (p : Program) → Named p → program_of_text (text_of_program p) ≡ p → (ms ns : List ℕ) (x : P4Table) → table_fits p x ≡ true → ascend (ms ++ (x.number ∷ ns)) ≡ true
    → table_keeps (text_of_program p) ms (table_written p x) ≡ true
table_back p n e ms ns x h r =
    let t = text_of_program p in
    let q = table_parts p x h in
    let at : number_in (act x.number) ≡ x.number = number_after 97 x.number (below x.number q.small) in
    let named = same_name (codes "t" ++ decimal x.number) (codes "t" ++ decimal (number_in (act x.number))) in
    let rises = nat_le (least_after ms) (number_in (act x.number)) in
    let fits = table_fits (program_of_text t) (table_meant t (table_written p x)) in
    let own = same_name (act x.number) (act x.number) in
    let wide = (meta_width p x.result) == meta_width p x.result in
    and_from (named && rises && fits && own && own && wide) true
    (and_from (named && rises && fits && own && own) wide
    (and_from (named && rises && fits && own) own
    (and_from (named && rises && fits) own
    (and_from (named && rises) fits
    (and_from named rises (ap (λ z. same_name (codes "t" ++ decimal x.number) (codes "t" ++ decimal z)) at ∙ same_self (codes "t" ++ decimal x.number)) (ap (nat_le (least_after ms)) at ∙ least_is ms ns x.number r))
    (ap₂ table_fits e (table_same p n x h) ∙ h))
    (same_self (act x.number))) (same_self (act x.number))) (self_equal (meta_width p x.result))) refl

tables_back : (p : Program) → Named p → program_of_text (text_of_program p) ≡ p → (ms : List ℕ) (xs : List P4Table) → each (table_fits p) xs ≡ true → ascend (ms ++ numbers_of xs) ≡ true
    → kept (table_pieces (text_of_program p) (map act ms) ms (map (table_written p) xs)) ≡ true
tables_back p n e ms [] h r = refl
tables_back p n e ms (x ∷ xs) h r =
    let t = text_of_program p in
    let q = and_parts (table_fits p x) (each (table_fits p) xs) h in
    let at : number_in (act x.number) ≡ x.number = number_after 97 x.number (below x.number (table_parts p x q.0).small) in
    let later = tables_back p n e (ms ++ (x.number ∷ [])) xs q.1 (ap ascend (append_assoc ms (x.number ∷ []) (numbers_of xs)) ∙ r) in
    let moved : kept (table_pieces t (map act ms ++ (act x.number ∷ [])) (ms ++ (number_in (act x.number) ∷ [])) (map (table_written p) xs)) ≡ true =
    ap₂ (λ a b. kept (table_pieces t a (ms ++ (b ∷ [])) (map (table_written p) xs))) (map_joined ms x.number) at ∙ later in
    and_from (action_keeps t (map act ms) (table_written p x)) (table_keeps t ms (table_written p x) && kept (table_pieces t (map act ms ++ (act x.number ∷ [])) (ms ++ (number_in (act x.number) ∷ [])) (map (table_written p) xs)))
    (action_back p n e ms (numbers_of xs) x q.0 r)
    (and_from (table_keeps t ms (table_written p x)) (kept (table_pieces t (map act ms ++ (act x.number ∷ [])) (ms ++ (number_in (act x.number) ∷ [])) (map (table_written p) xs))) (table_back p n e ms (numbers_of xs) x q.0 r) moved)

-- ---- whole programs

pub record Kinds (p : Program) : Type 0 where
  pub named : Named p
  pub header_names : each header_named p.headers ≡ true
  pub header_widths : each header_wide p.headers ≡ true
  pub meta_names : each (λ (f : P4Field). is_meta_name f.name) p.meta ≡ true
  pub meta_widths : each is_declared_width (field_widths p.meta) ≡ true
  pub ingress_tables : each (table_fits p) p.ingress.tables ≡ true
  pub egress_tables : each (table_fits p) p.egress.tables ≡ true
  pub rise : ascend (numbers_of p.ingress.tables ++ numbers_of p.egress.tables) ≡ true
  pub ingress_body : block_fits (inside p true (numbers_of p.ingress.tables)) p.ingress.body ≡ true
  pub egress_body : block_fits (inside p false (numbers_of p.egress.tables)) p.egress.body ≡ true

own_distinct : (hs : List P4Header) → each header_named hs ≡ true → each (λ (h : P4Header). all_distinct (map (λ (f : P4Field). f.name) h.fields)) hs ≡ true
own_distinct [] e = refl
own_distinct (h ∷ hs) e =
    let p = and_parts (header_named h) (each header_named hs) e in
    and_from (all_distinct (map (λ (f : P4Field). f.name) h.fields)) (each (λ (h : P4Header). all_distinct (map (λ (f : P4Field). f.name) h.fields)) hs)
    (and_parts (is_run h.name && each (λ (f : P4Field). is_run f.name) h.fields) (all_distinct (map (λ (f : P4Field). f.name) h.fields)) p.0).1 (own_distinct hs p.1)

pub kinds_of : (p : Program) → kinds_fit p ≡ true → Kinds p
kinds_of p h =
    let ingress : Bool = block_fits (inside p true (numbers_of p.ingress.tables)) p.ingress.body in
    let egress : Bool = block_fits (inside p false (numbers_of p.egress.tables)) p.egress.body in
    let headers_distinct : Bool = all_distinct (map (λ (h : P4Header). h.name) p.headers) in
    let meta_named : Bool = each (λ (f : P4Field). is_meta_name f.name) p.meta in
    let meta_distinct : Bool = all_distinct (map (λ (f : P4Field). f.name) p.meta) in
    let a = and_parts (names_fit p && widths_fit p && tables_fit p && ingress) egress h in
    let b = and_parts (names_fit p && widths_fit p && tables_fit p) ingress a.0 in
    let c = and_parts (names_fit p && widths_fit p) (tables_fit p) b.0 in
    let d = and_parts (names_fit p) (widths_fit p) c.0 in
    let n1 = and_parts (each header_named p.headers && headers_distinct && meta_named) meta_distinct d.0 in
    let n2 = and_parts (each header_named p.headers && headers_distinct) meta_named n1.0 in
    let n3 = and_parts (each header_named p.headers) headers_distinct n2.0 in
    let w = and_parts (each header_wide p.headers) (each is_declared_width (field_widths p.meta)) d.1 in
    let t1 = and_parts (each (table_fits p) p.ingress.tables && each (table_fits p) p.egress.tables) (ascend (numbers_of p.ingress.tables ++ numbers_of p.egress.tables)) c.1 in
    let t2 = and_parts (each (table_fits p) p.ingress.tables) (each (table_fits p) p.egress.tables) t1.0 in
    record {
      named = record { headers = n3.1; fields = own_distinct p.headers n3.0; meta = n1.1 };
      header_names = n3.0;
      header_widths = w.0;
      meta_names = n2.1;
      meta_widths = w.1;
      ingress_tables = t2.0;
      egress_tables = t2.1;
      rise = t1.1;
      ingress_body = b.1;
      egress_body = a.1;
    }

small_numbers : (p : Program) (xs : List P4Table) → each (table_fits p) xs ≡ true → each (λ m. nat_lt m (2 ^ 32 - 1)) (numbers_of xs) ≡ true
small_numbers p [] h = refl
small_numbers p (x ∷ xs) h =
    let q = and_parts (table_fits p x) (each (table_fits p) xs) h in
    and_from (nat_lt x.number (2 ^ 32 - 1)) (each (λ m. nat_lt m (2 ^ 32 - 1)) (numbers_of xs)) (table_parts p x q.0).small (small_numbers p xs q.1)

ingress_back : (p : Program) → Kinds p → BlockBack p (inside p true (numbers_of p.ingress.tables)) p.ingress.body
ingress_back p k = block_back p true (numbers_of p.ingress.tables) k.named (small_numbers p p.ingress.tables k.ingress_tables) p.ingress.body k.ingress_body

egress_back : (p : Program) → Kinds p → BlockBack p (inside p false (numbers_of p.egress.tables)) p.egress.body
egress_back p k = block_back p false (numbers_of p.egress.tables) k.named (small_numbers p p.egress.tables k.egress_tables) p.egress.body k.egress_body

abbrev control_with : List P4Table → P4Block → Control
control_with ts b = record { tables = ts; body = b }

abbrev program_with : List P4Header → List P4Field → Control → Control → Program
program_with hs ms i e = record { headers = hs; meta = ms; ingress = i; egress = e }

pub program_back : (p : Program) → Kinds p → program_of_text (text_of_program p) ≡ p
program_back p k =
    let t = text_of_program p in
    ap₂ (λ (hs : List P4Header) (ms : List P4Field). program_with hs ms (program_of_text t).ingress (program_of_text t).egress) (alike header_written header_meant header_same p.headers) (alike meta_written meta_meant (λ f. refl) p.meta)
    ∙ ap₂ (λ (i e : Control). program_with p.headers p.meta i e)
    (ap₂ control_with (tables_same p k.named p.ingress.tables k.ingress_tables) (ingress_back p k).same)
    (ap₂ control_with (tables_same p k.named p.egress.tables k.egress_tables) (egress_back p k).same)

stands_same : (p : Program) → program_of_text (text_of_program p) ≡ p → (i : Bool) (c : Control) → map (table_meant (text_of_program p)) (map (table_written p) c.tables) ≡ c.tables
    → stands_in (text_of_program p) i (control_written p c) ≡ inside p i (numbers_of c.tables)
stands_same p e i c h = ap₂ (λ (q : Program) (ts : List P4Table). inside q i (numbers_of ts)) e h

pub text_back : (p : Program) → Kinds p → TextKept (text_of_program p)
text_back p k =
    let t = text_of_program p in
    let e = program_back p k in
    let hs : (program_of_text t).headers ≡ p.headers = alike header_written header_meant header_same p.headers in
    let ts = tables_same p k.named p.ingress.tables k.ingress_tables in
    let us = tables_same p k.named p.egress.tables k.egress_tables in
    let split : ascend (numbers_of p.ingress.tables) ≡ true = prefix_ascends (numbers_of p.ingress.tables) (numbers_of p.egress.tables) k.rise in
    record {
      headers = headers_back [] p.headers k.header_names k.named.headers k.header_widths;
      members = ap (λ z. kept (member_pieces z (map member_written p.headers))) hs ∙ members_back p.headers;
      meta = metas_back [] p.meta k.meta_names k.named.meta k.meta_widths;
      extracts = ap (λ z. kept (line_pieces extract_then z (map line_written p.headers))) hs ∙ lines_back extract_then p.headers;
      ingress_tables = tables_back p k.named e [] p.ingress.tables k.ingress_tables split;
      ingress_body = ap (λ c. kept (block_pieces t c (block_written p p.ingress.body))) (stands_same p e true p.ingress ts) ∙ (ingress_back p k).keeps;
      egress_tables =
          ap₂ (λ a b. kept (table_pieces t a b (map (table_written p) p.egress.tables)))
          (map_twice (table_written p) (λ (x : TableText). x.action) p.ingress.tables ∙ sym (map_twice (λ (x : P4Table). x.number) act p.ingress.tables)) (ap numbers_of ts)
          ∙ tables_back p k.named e (numbers_of p.ingress.tables) p.egress.tables k.egress_tables k.rise;
      egress_body = ap (λ c. kept (block_pieces t c (block_written p p.egress.body))) (stands_same p e false p.egress us) ∙ (egress_back p k).keeps;
      emits = ap (λ z. kept (line_pieces emit_then z (map line_written p.headers))) hs ∙ lines_back emit_then p.headers;
    }
  where
    prefix_ascends : (ms ns : List ℕ) → ascend (ms ++ ns) ≡ true → ascend ms ≡ true
    prefix_ascends [] ns h = refl
    prefix_ascends (m ∷ []) ns h = refl
    prefix_ascends (m ∷ n ∷ ms) ns h =
        let p = and_parts (nat_lt m n) (ascend (n ∷ (ms ++ ns))) h in
        and_from (nat_lt m n) (ascend (n ∷ ms)) p.0 (prefix_ascends (n ∷ ms) ns p.1)

pub no_fault_back : (p : Program) → kinds_fit p ≡ true → kind_faults (text_of_program p) ≡ []
no_fault_back p h = none_where_kept (text_of_program p) (text_back p (kinds_of p h))

pub lines_of : (p : Program) → Lines (length (text_of_program p).headers) (text_of_program p).rest
lines_of p = record {
  members = length-map p.headers member_written ∙ sym (length-map p.headers header_written);
  extracts = length-map p.headers line_written ∙ sym (length-map p.headers header_written);
  emits = length-map p.headers line_written ∙ sym (length-map p.headers header_written);
}
