-- Texts without a fault of kind: their tokens are those of the program that they stand for.
use Rattle.std.specs.Prelude.{◌≡◌, ℕ, zero, suc, ◌&&◌, ◌==◌, Bool, true, false, List, [], ◌∷◌, ◌++◌, length, drop, map, flat_map, slice_get, Option, Some, None, option_map, option_and_then, is_some, codes, if◌then◌else◌, refl}
use Rattle.std.proofs.Common.{sym, ap, ◌∙◌, append_assoc, arith}
use Rattle.std.proofs.lemmas.Bool.{and_parts}
use Rattle.std.proofs.lemmas.Option.{slice_get-map}
use Rattle.std.proofs.lemmas.Bool.Decides.{nat_tests}
use Rattle.cocoon_num.specs.Lists.{each}
use Rattle.cocoon_num.specs.Names.{same_name}
use Rattle.cocoon_num.specs.Sorts.{Sort, bits_sort, unary_sort, binary_sort, slice_sort, pick_sort}
use Rattle.cocoon_num.specs.Tokens.{Kind, a_name, begins, is_run, mark, plain}
use Rattle.cocoon_num.specs.Values.{with_all, with_both}
use Rattle.p4_ir.specs.Program.{binary_of}
use Rattle.p4_ir.specs.P4Kinds.{Within, is_implies, field_sort, p4_sort}
use Rattle.p4_ir.specs.P4Text.{binary_mark, expr_tokens, field_tokens, header_name, header_tokens, member_tokens, meta_member_tokens, meta_tokens, optional_tokens, said, declared, field_name, unary_mark}
use Rattle.p4_ir.specs.P4Tree.{P4Field, P4Header}
use Rattle.p4_texts.specs.KindFaults.{line_pieces, member_pieces}
use Rattle.p4_texts.specs.Meant.{expr_meant, field_at, field_meant, header_at, header_meant, meta_at, meta_meant, names_of, place_in, program_of_text, rest_after}
use Rattle.p4_texts.specs.Written.{ExprText, w_lit, w_truth, w_meta, w_field, w_port, w_rid, w_unary, w_binary, w_slice, w_pick, FieldText, HeaderText, MemberText, ProgramText, each_then, emit_then, expr_then, extract_then, field_then, header_then, member_then}
use Rattle.p4_texts.proofs.Lists.{name_is}
use Rattle.p4_texts.proofs.Kept.{header_named, kept}

-- ---- names

begins_is : (p x : List ℕ) → begins p x ≡ true → x ≡ p ++ drop (length p) x
begins_is [] x h = refl
begins_is (a ∷ p) [] h = absurd cc
begins_is (a ∷ p) (b ∷ x) h =
    let q = and_parts (a == b) (begins p x) h in
    let e : a ≡ b = grind (arith, nat_tests, q.0) in
    let r : x ≡ p ++ drop (length p) x = begins_is p x q.1 in
    ap (λ z. z ∷ x) (sym e) ∙ ap (λ z. a ∷ z) r

pub rest_is : (start x : List ℕ) → is_run (rest_after start x) ≡ true → x ≡ start ++ rest_after start x
rest_is start x h = by (begins start x) (begins_is start x) h
  where
    by : (b : Bool) → (b ≡ true → x ≡ start ++ drop (length start) x) → is_run (if b then drop (length start) x else []) ≡ true → x ≡ start ++ (if b then drop (length start) x else [])
    by true e h = e refl
    by false e h = absurd cc

pub at_place : {A : Type 0} (name : A → List ℕ) (xs : List A) (x : List ℕ) (a : A) → slice_get xs (place_in (map name xs) x) ≡ Some a → name a ≡ x
at_place name [] x a h = absurd cc
at_place name (y ∷ ys) x a h = by (same_name (name y) x) (name_is (name y) x) (λ k. at_place name ys x a k) h
  where
    by : (b : Bool) → (b ≡ true → name y ≡ x) → (slice_get ys (place_in (map name ys) x) ≡ Some a → name a ≡ x) → slice_get (y ∷ ys) (if b then 0 else suc (place_in (map name ys) x)) ≡ Some a → name a ≡ x
    by true e later h = let same : y ≡ a = cc in ap name (sym same) ∙ e refl
    by false e later h = later h

pub each_at : {A : Type 0} (f : A → Bool) (xs : List A) (i : ℕ) (a : A) → each f xs ≡ true → slice_get xs i ≡ Some a → f a ≡ true
each_at f [] i a h e = absurd cc
each_at f (x ∷ xs) zero a h e = let same : x ≡ a = cc in ap f (sym same) ∙ (and_parts (f x) (each f xs) h).0
each_at f (x ∷ xs) (suc i) a h e = each_at f xs i a (and_parts (f x) (each f xs) h).1 e

pub record There {A : Type 0} (o : Option A) : Type 0 where
  pub it : A
  pub is : o ≡ Some it

pub there : {A : Type 0} (o : Option A) → is_some o ≡ true → There o
there None h = absurd cc
there (Some a) h = record { it = a; is = refl }

pub map_there : {A B : Type 0} (f : A → B) (o : Option A) → is_some (option_map f o) ≡ true → There o
map_there f None h = absurd cc
map_there f (Some a) h = record { it = a; is = refl }

-- ---- lines that name headers

abbrev said_member : P4Header → List Kind
said_member d = member_tokens d

pub members_said : (hs : List P4Header) (ms : List MemberText) (ks : List Kind) → kept (member_pieces hs ms) ≡ true → length ms ≡ length hs → flat_map member_tokens hs ++ ks ≡ each_then member_then ms ks
members_said [] [] ks h e = refl
members_said [] (m ∷ ms) ks h e = absurd cc
members_said (d ∷ hs) [] ks h e = absurd (omega (arith, e))
members_said (d ∷ hs) (m ∷ ms) ks h e =
    let p = and_parts (same_name m.header (codes "ht_" ++ d.name) && same_name m.name (codes "h_" ++ d.name)) (kept (member_pieces hs ms)) h in
    let q = and_parts (same_name m.header (codes "ht_" ++ d.name)) (same_name m.name (codes "h_" ++ d.name)) p.0 in
    let type_is : m.header ≡ codes "ht_" ++ d.name = name_is m.header (codes "ht_" ++ d.name) q.0 in
    let own_is : m.name ≡ codes "h_" ++ d.name = name_is m.name (codes "h_" ++ d.name) q.1 in
    let all : List Kind = flat_map member_tokens hs ++ ks in
    ap (λ z. a_name z ∷ a_name (codes "h_" ++ d.name) ∷ mark (codes ";") ∷ all) (sym type_is)
    ∙ ap (λ z. a_name m.header ∷ a_name z ∷ mark (codes ";") ∷ all) (sym own_is)
    ∙ ap (λ z. a_name m.header ∷ a_name m.name ∷ mark (codes ";") ∷ z) (members_said hs ms ks p.1 (omega (arith, e)))

pub extracts_said : (hs : List P4Header) (xs : List (List ℕ)) (ks : List Kind) → kept (line_pieces extract_then hs xs) ≡ true → length xs ≡ length hs
    → flat_map (λ (d : P4Header). said (codes "b.extract(h.") ++ header_name d.name ∷ said (codes ");")) hs ++ ks ≡ each_then extract_then xs ks
extracts_said [] [] ks h e = refl
extracts_said [] (x ∷ xs) ks h e = absurd cc
extracts_said (d ∷ hs) [] ks h e = absurd (omega (arith, e))
extracts_said (d ∷ hs) (x ∷ xs) ks h e =
    let p = and_parts (same_name x (codes "h_" ++ d.name)) (kept (line_pieces extract_then hs xs)) h in
    let own_is : x ≡ codes "h_" ++ d.name = name_is x (codes "h_" ++ d.name) p.0 in
    ap (λ z. extract_then z (flat_map (λ (d : P4Header). said (codes "b.extract(h.") ++ header_name d.name ∷ said (codes ");")) hs ++ ks)) (sym own_is)
    ∙ ap (extract_then x) (extracts_said hs xs ks p.1 (omega (arith, e)))

pub emits_said : (hs : List P4Header) (xs : List (List ℕ)) (ks : List Kind) → kept (line_pieces emit_then hs xs) ≡ true → length xs ≡ length hs
    → flat_map (λ (d : P4Header). said (codes "b.emit(h.") ++ header_name d.name ∷ said (codes ");")) hs ++ ks ≡ each_then emit_then xs ks
emits_said [] [] ks h e = refl
emits_said [] (x ∷ xs) ks h e = absurd cc
emits_said (d ∷ hs) [] ks h e = absurd (omega (arith, e))
emits_said (d ∷ hs) (x ∷ xs) ks h e =
    let p = and_parts (same_name x (codes "h_" ++ d.name)) (kept (line_pieces emit_then hs xs)) h in
    let own_is : x ≡ codes "h_" ++ d.name = name_is x (codes "h_" ++ d.name) p.0 in
    ap (λ z. emit_then z (flat_map (λ (d : P4Header). said (codes "b.emit(h.") ++ header_name d.name ∷ said (codes ");")) hs ++ ks)) (sym own_is)
    ∙ ap (emit_then x) (emits_said hs xs ks p.1 (omega (arith, e)))

-- the line of a header gives its name
pub member_at : (hs : List P4Header) (ms : List MemberText) (i : ℕ) (d : P4Header) → kept (member_pieces hs ms) ≡ true → length ms ≡ length hs → slice_get hs i ≡ Some d
    → (m : MemberText) × (slice_get ms i ≡ Some m) × (m.name ≡ codes "h_" ++ d.name)
member_at [] ms i d h e g = absurd cc
member_at (x ∷ hs) [] i d h e g = absurd (omega (arith, e))
member_at (x ∷ hs) (m ∷ ms) zero d h e g =
    let p = and_parts (same_name m.header (codes "ht_" ++ x.name) && same_name m.name (codes "h_" ++ x.name)) (kept (member_pieces hs ms)) h in
    let q = and_parts (same_name m.header (codes "ht_" ++ x.name)) (same_name m.name (codes "h_" ++ x.name)) p.0 in
    let same : x ≡ d = cc in
    (m, refl, name_is m.name (codes "h_" ++ x.name) q.1 ∙ ap (λ (z : P4Header). codes "h_" ++ z.name) same)
member_at (x ∷ hs) (m ∷ ms) (suc i) d h e g =
    let p = and_parts (same_name m.header (codes "ht_" ++ x.name) && same_name m.name (codes "h_" ++ x.name)) (kept (member_pieces hs ms)) h in
    member_at hs ms i d p.1 (omega (arith, e)) g

-- ---- headers and meta fields

abbrev field_said : P4Field → List Kind
field_said f = declared f.width (field_name f.name) ++ mark (codes ";") ∷ []

fields_said : (fs : List FieldText) (ks : List Kind) → each (λ (f : P4Field). is_run f.name) (map field_meant fs) ≡ true → flat_map field_said (map field_meant fs) ++ ks ≡ each_then field_then fs ks
fields_said [] ks h = refl
fields_said (f ∷ fs) ks h =
    let p = and_parts (is_run (rest_after (codes "f_") f.name)) (each (λ (f : P4Field). is_run f.name) (map field_meant fs)) h in
    ap (λ z. a_name (codes "bit") ∷ mark (codes "<") ∷ plain f.width ∷ mark (codes ">") ∷ a_name z ∷ mark (codes ";") ∷ (flat_map field_said (map field_meant fs) ++ ks)) (sym (rest_is (codes "f_") f.name p.0))
    ∙ ap (field_then f) (fields_said fs ks p.1)

pub meta_said : (fs : List FieldText) (ks : List Kind) → flat_map meta_member_tokens (map meta_meant fs) ++ ks ≡ each_then field_then fs ks
meta_said [] ks = refl
meta_said (f ∷ fs) ks = ap (field_then f) (meta_said fs ks)

regroup : (a b c d : List Kind) → ((a ++ b) ++ c) ++ d ≡ a ++ (b ++ (c ++ d))
regroup a b c d = simp append_assoc

named_parts : (a b c r : Bool) → ((a && b && c) && r) ≡ true → (a ≡ true) × (b ≡ true) × (r ≡ true)
named_parts true true true r h = (refl, refl, h)
named_parts true true false r h = absurd cc
named_parts true false c r h = absurd cc
named_parts false b c r h = absurd cc

pub headers_said : (hs : List HeaderText) (ks : List Kind) → each header_named (map header_meant hs) ≡ true → flat_map header_tokens (map header_meant hs) ++ ks ≡ each_then header_then hs ks
headers_said [] ks h = refl
headers_said (d ∷ hs) ks h =
    let p = named_parts (is_run (header_meant d).name) (each (λ (f : P4Field). is_run f.name) (header_meant d).fields) _ (each header_named (map header_meant hs)) h in
    let later : List Kind = flat_map header_tokens (map header_meant hs) in
    let fields : List Kind = flat_map field_said (map field_meant d.fields) in
    ap (λ z. a_name (codes "header") ∷ a_name z ∷ mark (codes "{") ∷ (((fields ++ (mark (codes "}") ∷ [])) ++ later) ++ ks)) (sym (rest_is (codes "ht_") d.name p.0))
    ∙ ap (λ z. a_name (codes "header") ∷ a_name d.name ∷ mark (codes "{") ∷ z)
    (regroup fields (mark (codes "}") ∷ []) later ks ∙ fields_said d.fields (mark (codes "}") ∷ (later ++ ks)) p.1 ∙ ap (λ z. each_then field_then d.fields (mark (codes "}") ∷ z)) (headers_said hs ks p.2))

-- ---- names that are used

pub record Known (t : ProgramText) : Type 0 where
  pub members : kept (member_pieces (program_of_text t).headers t.rest.members) ≡ true
  pub lines : length t.rest.members ≡ length (program_of_text t).headers
  pub named : each header_named (program_of_text t).headers ≡ true

pub meta_use : (t : ProgramText) (x : List ℕ) (ks : List Kind) → is_some (slice_get (program_of_text t).meta (meta_at t x)) ≡ true
    → meta_tokens (program_of_text t) (meta_at t x) ++ ks ≡ a_name (codes "m") ∷ mark (codes ".") ∷ a_name x ∷ ks
meta_use t x ks h =
    let e = slice_get-map meta_meant t.rest.meta (meta_at t x) in
    let f = map_there meta_meant (slice_get t.rest.meta (meta_at t x)) (ap is_some (sym e) ∙ h) in
    ap (λ o. optional_tokens (λ (f : P4Field). said (codes "m.") ++ a_name f.name ∷ []) o ++ ks) (e ∙ ap (option_map meta_meant) f.is)
    ∙ ap (λ z. a_name (codes "m") ∷ mark (codes ".") ∷ a_name z ∷ ks) (at_place (λ (g : FieldText). g.name) t.rest.meta x f.it f.is)

fields_run : (d : HeaderText) → header_named (header_meant d) ≡ true → each (λ (f : P4Field). is_run f.name) (map field_meant d.fields) ≡ true
fields_run d h = (and_parts (is_run (header_meant d).name) (each (λ (f : P4Field). is_run f.name) (map field_meant d.fields)) (and_parts (is_run (header_meant d).name && each (λ (f : P4Field). is_run f.name) (map field_meant d.fields)) _ h).0).1

abbrev field_words : List ℕ → List ℕ → List Kind → List Kind
field_words h f ks = a_name (codes "h") ∷ mark (codes ".") ∷ a_name h ∷ mark (codes ".") ∷ a_name f ∷ ks

pub field_use : (t : ProgramText) (h f : List ℕ) (ks : List Kind) → Known t → is_some (field_sort (program_of_text t) (header_at t h) (field_at t (header_at t h) f)) ≡ true
    → field_tokens (program_of_text t) (header_at t h) (field_at t (header_at t h) f) ++ ks ≡ field_words h f ks
field_use t h f ks k s = by (slice_get t.headers (header_at t h)) refl
  where
    i : ℕ
    i = header_at t h

    in_header : (d : HeaderText) → slice_get (program_of_text t).headers i ≡ Some (header_meant d)
        → is_some (option_map (λ (x : P4Field). bits_sort x.width) (slice_get (map field_meant d.fields) (place_in (names_of d.fields) f))) ≡ true
        → optional_tokens (λ (x : P4Field). said (codes "h.") ++ header_name (header_meant d).name ∷ said (codes ".") ++ field_name x.name ∷ []) (slice_get (map field_meant d.fields) (place_in (names_of d.fields) f)) ++ ks ≡ field_words h f ks
    in_header d g s =
        let e = slice_get-map field_meant d.fields (place_in (names_of d.fields) f) in
        let x = map_there (λ (x : P4Field). bits_sort x.width) (slice_get (map field_meant d.fields) (place_in (names_of d.fields) f)) s in
        let y = map_there field_meant (slice_get d.fields (place_in (names_of d.fields) f)) (ap is_some (sym e ∙ x.is)) in
        let m = member_at (program_of_text t).headers t.rest.members i (header_meant d) k.members k.lines g in
        let called : codes "h_" ++ (header_meant d).name ≡ h = sym m.2 ∙ at_place (λ (n : MemberText). n.name) t.rest.members h m.0 m.1 in
        let named = fields_run d (each_at header_named (program_of_text t).headers i (header_meant d) k.named g) in
        let run = each_at (λ (x : P4Field). is_run x.name) (map field_meant d.fields) (place_in (names_of d.fields) f) (field_meant y.it) named (e ∙ ap (option_map field_meant) y.is) in
        let called_f : codes "f_" ++ (field_meant y.it).name ≡ f = sym (rest_is (codes "f_") y.it.name run) ∙ at_place (λ (n : FieldText). n.name) d.fields f y.it y.is in
        ap (λ o. optional_tokens (λ (x : P4Field). said (codes "h.") ++ header_name (header_meant d).name ∷ said (codes ".") ++ field_name x.name ∷ []) o ++ ks) (e ∙ ap (option_map field_meant) y.is)
        ∙ ap (λ z. a_name (codes "h") ∷ mark (codes ".") ∷ a_name z ∷ mark (codes ".") ∷ a_name (codes "f_" ++ (field_meant y.it).name) ∷ ks) called
        ∙ ap (λ z. a_name (codes "h") ∷ mark (codes ".") ∷ a_name h ∷ mark (codes ".") ∷ a_name z ∷ ks) called_f

    by : (o : Option HeaderText) → slice_get t.headers i ≡ o → field_tokens (program_of_text t) i (field_at t i f) ++ ks ≡ field_words h f ks
    by None e =
        let g : slice_get (program_of_text t).headers i ≡ None = slice_get-map header_meant t.headers i ∙ ap (option_map header_meant) e in
        absurd (let none : is_some (field_sort (program_of_text t) i (field_at t i f)) ≡ false = ap (λ z. is_some (option_and_then (λ (d : P4Header). option_map (λ (x : P4Field). bits_sort x.width) (slice_get d.fields (field_at t i f))) z)) g in cc)
    by (Some d) e =
        let g : slice_get (program_of_text t).headers i ≡ Some (header_meant d) = slice_get-map header_meant t.headers i ∙ ap (option_map header_meant) e in
        let at : field_at t i f ≡ place_in (names_of d.fields) f = ap (λ (o : Option HeaderText). elim o as (λ _. ℕ) [ Some h ↦ place_in (names_of h.fields) f | None ↦ 0 ]) e in
        ap (λ z. optional_tokens (λ (d : P4Header). optional_tokens (λ (x : P4Field). said (codes "h.") ++ header_name d.name ∷ said (codes ".") ++ field_name x.name ∷ []) (slice_get d.fields (field_at t i f))) z ++ ks) g
        ∙ ap (λ n. optional_tokens (λ (x : P4Field). said (codes "h.") ++ header_name (header_meant d).name ∷ said (codes ".") ++ field_name x.name ∷ []) (slice_get (map field_meant d.fields) n) ++ ks) at
        ∙ in_header d g (ap (λ n. is_some (option_map (λ (x : P4Field). bits_sort x.width) (slice_get (map field_meant d.fields) n))) (sym at)
        ∙ ap (λ z. is_some (option_and_then (λ (d : P4Header). option_map (λ (x : P4Field). bits_sort x.width) (slice_get d.fields (field_at t i f))) z)) (sym g) ∙ s)

-- ---- expressions

pub then_some : {A B : Type 0} (f : A → Option B) (o : Option A) → is_some (option_and_then f o) ≡ true → is_some o ≡ true
then_some f None h = absurd cc
then_some f (Some a) h = refl

pub both_some : {A B C : Type 0} (f : A → B → Option C) (a : Option A) (b : Option B) → is_some (with_both f a b) ≡ true → (is_some a ≡ true) × (is_some b ≡ true)
both_some f None b h = absurd cc
both_some f (Some a) None h = absurd cc
both_some f (Some a) (Some b) h = (refl, refl)

pub all_some : {A : Type 0} (f : A → A → A → Option A) (c a b : Option A) → is_some (with_all f c a b) ≡ true → (is_some c ≡ true) × (is_some a ≡ true) × (is_some b ≡ true)
all_some f None a b h = absurd cc
all_some f (Some c) a b h = (refl, (both_some (f c) a b h).0, (both_some (f c) a b h).1)

pub unless_some : {A : Type 0} (b : Bool) (o : Option A) → is_some (if b then None else o) ≡ true → is_some o ≡ true
unless_some true o h = absurd cc
unless_some false o h = h

mapped_some : {A B : Type 0} (f : A → B) (o : Option A) → is_some (option_map f o) ≡ true → is_some o ≡ true
mapped_some f None h = absurd cc
mapped_some f (Some a) h = refl

abbrev pub standing : ProgramText → Bool → List ℕ → Within
standing t in_ingress tables = record { program = program_of_text t; in_ingress = in_ingress; tables = tables }

abbrev sort_in : ProgramText → Bool → List ℕ → ExprText → Option Sort
sort_in t in_ingress tables e = p4_sort (standing t in_ingress tables) (expr_meant t e)

group3 : (a b ks : List Kind) (k : Kind) → (a ++ (k ∷ b)) ++ ks ≡ a ++ (k ∷ (b ++ ks))
group3 a b ks k = append_assoc a (k ∷ b) ks

pub expr_said : (t : ProgramText) (b : Bool) (ns : List ℕ) → Known t → (e : ExprText) (ks : List Kind) → is_some (sort_in t b ns e) ≡ true → expr_tokens (program_of_text t) (expr_meant t e) ++ ks ≡ expr_then e ks
expr_said t b ns k (w_lit w n) ks s = refl
expr_said t b ns k (w_truth true) ks s = refl
expr_said t b ns k (w_truth false) ks s = refl
expr_said t b ns k (w_meta x) ks s = meta_use t x ks (mapped_some (λ (f : P4Field). bits_sort f.width) (slice_get (program_of_text t).meta (meta_at t x)) s)
expr_said t b ns k (w_field h f) ks s = field_use t h f ks k s
expr_said t b ns k w_port ks s = refl
expr_said t b ns k w_rid ks s = refl
expr_said t b ns k (w_unary op a) ks s =
    let x : List Kind = expr_tokens (program_of_text t) (expr_meant t a) in
    ap (λ z. mark (codes "(") ∷ mark (unary_mark op) ∷ z) (append_assoc x (mark (codes ")") ∷ []) ks ∙ expr_said t b ns k a (mark (codes ")") ∷ ks) (then_some (unary_sort op) (sort_in t b ns a) s))
expr_said t b ns k (w_binary op a c) ks s =
    let x : List Kind = expr_tokens (program_of_text t) (expr_meant t a) in
    let y : List Kind = expr_tokens (program_of_text t) (expr_meant t c) in
    let m : Kind = mark (binary_mark (binary_of op)) in
    let some = both_some (binary_sort (binary_of op)) (sort_in t b ns a) (sort_in t b ns c) (unless_some (is_implies (binary_of op)) (with_both (binary_sort (binary_of op)) (sort_in t b ns a) (sort_in t b ns c)) s) in
    ap (λ z. mark (codes "(") ∷ z) (regrouped x y ks m ∙ expr_said t b ns k a (m ∷ (y ++ (mark (codes ")") ∷ ks))) some.0
    ∙ ap (λ z. expr_then a (m ∷ z)) (expr_said t b ns k c (mark (codes ")") ∷ ks) some.1))
  where
    regrouped : (x y ks : List Kind) (m : Kind) → ((x ++ (m ∷ y)) ++ (mark (codes ")") ∷ [])) ++ ks ≡ x ++ (m ∷ (y ++ (mark (codes ")") ∷ ks)))
    regrouped x y ks m = append_assoc (x ++ (m ∷ y)) (mark (codes ")") ∷ []) ks ∙ append_assoc x (m ∷ y) (mark (codes ")") ∷ ks)
expr_said t b ns k (w_slice a high low) ks s =
    let x : List Kind = expr_tokens (program_of_text t) (expr_meant t a) in
    append_assoc x (mark (codes "[") ∷ plain high ∷ mark (codes ":") ∷ plain low ∷ mark (codes "]") ∷ []) ks
    ∙ expr_said t b ns k a (mark (codes "[") ∷ plain high ∷ mark (codes ":") ∷ plain low ∷ mark (codes "]") ∷ ks) (then_some (λ z. slice_sort z high low) (sort_in t b ns a) s)
expr_said t b ns k (w_pick c a d) ks s =
    let x : List Kind = expr_tokens (program_of_text t) (expr_meant t c) in
    let y : List Kind = expr_tokens (program_of_text t) (expr_meant t a) in
    let z : List Kind = expr_tokens (program_of_text t) (expr_meant t d) in
    let some = all_some pick_sort (sort_in t b ns c) (sort_in t b ns a) (sort_in t b ns d) s in
    ap (λ w. mark (codes "(") ∷ w) (regrouped x y z ks ∙ expr_said t b ns k c (mark (codes "?") ∷ (y ++ (mark (codes ":") ∷ (z ++ (mark (codes ")") ∷ ks))))) some.0
    ∙ ap (λ w. expr_then c (mark (codes "?") ∷ w)) (expr_said t b ns k a (mark (codes ":") ∷ (z ++ (mark (codes ")") ∷ ks))) some.1
    ∙ ap (λ w. expr_then a (mark (codes ":") ∷ w)) (expr_said t b ns k d (mark (codes ")") ∷ ks) some.2)))
  where
    regrouped : (x y z ks : List Kind) → (((x ++ (mark (codes "?") ∷ y)) ++ (mark (codes ":") ∷ z)) ++ (mark (codes ")") ∷ [])) ++ ks ≡ x ++ (mark (codes "?") ∷ (y ++ (mark (codes ":") ∷ (z ++ (mark (codes ")") ∷ ks)))))
    regrouped x y z ks =
        append_assoc ((x ++ (mark (codes "?") ∷ y)) ++ (mark (codes ":") ∷ z)) (mark (codes ")") ∷ []) ks
        ∙ append_assoc (x ++ (mark (codes "?") ∷ y)) (mark (codes ":") ∷ z) (mark (codes ")") ∷ ks)
        ∙ append_assoc x (mark (codes "?") ∷ y) (mark (codes ":") ∷ (z ++ (mark (codes ")") ∷ ks)))
