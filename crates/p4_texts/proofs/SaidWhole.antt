-- The tokens of statements, tables and whole texts without a fault of kind.
use Rattle.std.specs.Prelude.{◌≡◌, ℕ, zero, suc, ◌-◌, ◌^◌, ◌<◌, ◌&&◌, ◌==◌, Bool, true, false, not, nat_le, nat_lt, List, [], ◌∷◌, ◌++◌, length, map, flat_map, slice_get, Option, Some, None, is_some, option_map, codes, decimal, refl}
use Rattle.std.proofs.Common.{sym, ap, ◌∙◌, append_assoc, append-nil, arith}
use Rattle.std.proofs.lemmas.Bool.{and_parts}
use Rattle.std.proofs.lemmas.Bool.Decides.{nat_tests}
use Rattle.std.proofs.lemmas.List.{length-map}
use Rattle.cocoon_num.specs.Lists.{each, is_one_of}
use Rattle.cocoon_num.specs.Names.{same_name}
use Rattle.cocoon_num.specs.Sorts.{Sort, are_same, has_sort, truth_sort, bits_sort}
use Rattle.cocoon_num.specs.Tokens.{Kind, a_name, finish, literal, mark, plain}
use Rattle.p4_ir.specs.P4Kinds.{field_sort, is_empty, meta_sort, numbers_of, p4_sort, stmt_fits, table_fits}
use Rattle.p4_ir.specs.P4Text.{action_name, architecture, assignment, block_tokens, control_tokens, declared, expr_tokens, field_tokens, header_name, header_tokens, in_braces, in_parentheses, match_kind, member_tokens, meta_member_tokens, meta_tokens, program_tokens, said, stmt_tokens, table_name, table_tokens}
use Rattle.p4_ir.specs.P4Tree.{P4Field, P4Header, Program, meta_width, verdict}
use Rattle.p4_texts.specs.KindFaults.{Piece, action_keeps, block_pieces, kind_faults, least_after, stands_in, stmt_keeps, stmt_pieces, table_keeps, table_pieces}
use Rattle.p4_texts.specs.Meant.{block_meant, expr_meant, field_at, header_at, header_meant, is_exact, key_names, meta_at, meta_meant, number_in, program_of_text, stmt_meant, table_meant}
use Rattle.p4_texts.specs.Written.{ExprText, StmtText, w_set_meta, w_set_field, w_apply, w_if, w_if_else, w_verdict, w_egress_port, w_group, w_return, BlockText, w_done, w_then, ControlText, KeysText, Lines, no_keys, some_keys, ProgramText, TableText, block_then, control_then, deparser_head, deparser_then, each_then, egress_begins, egress_head, egress_then, field_then, ingress_begins, ingress_head, ingress_then, key_then, keys_then, member_then, meta_then, parser_head, parser_then, rest_then, stmt_then, table_then, text_end, text_tokens}
use Rattle.p4_texts.proofs.Fits.{TextKept, text_kept}
use Rattle.p4_texts.proofs.Kept.{headers_kept, kept, kept_parts}
use Rattle.p4_texts.proofs.Lists.{name_is}
use Rattle.p4_texts.proofs.Said.{Known, emits_said, expr_said, extracts_said, field_use, headers_said, members_said, meta_said, meta_use, standing}

-- ---- statements

assigned : (to e ks : List Kind) → assignment to e ++ ks ≡ to ++ (mark (codes "=") ∷ (e ++ (mark (codes ";") ∷ ks)))
assigned to e ks = append_assoc (to ++ (mark (codes "=") ∷ e)) (mark (codes ";") ∷ []) ks ∙ append_assoc to (mark (codes "=") ∷ e) (mark (codes ";") ∷ ks)

pub has_some : (s : Sort) (o : Option Sort) → has_sort s o ≡ true → is_some o ≡ true
has_some s None h = absurd cc
has_some s (Some a) h = refl

pub same_some : (a b : Option Sort) → are_same a b ≡ true → (is_some a ≡ true) × (is_some b ≡ true)
same_some None b h = absurd cc
same_some (Some a) b h = (refl, has_some a b h)

pub of_map : {A B : Type 0} (f : A → B) (o : Option A) → is_some (option_map f o) ≡ true → is_some o ≡ true
of_map f None h = absurd cc
of_map f (Some a) h = refl

abbrev e_tokens : ProgramText → ExprText → List Kind
e_tokens t e = expr_tokens (program_of_text t) (expr_meant t e)

abbrev b_tokens : ProgramText → BlockText → List Kind
b_tokens t b = block_tokens (program_of_text t) (block_meant t b)

abbrev closing : List Kind → List Kind
closing ks = mark (codes "}") ∷ ks

if_groups : (e b ks : List Kind) → ((e ++ (mark (codes ")") ∷ [])) ++ (mark (codes "{") ∷ (b ++ (mark (codes "}") ∷ [])))) ++ ks ≡ e ++ (mark (codes ")") ∷ mark (codes "{") ∷ (b ++ closing ks))
if_groups e b ks =
    append_assoc (e ++ (mark (codes ")") ∷ [])) (mark (codes "{") ∷ (b ++ (mark (codes "}") ∷ []))) ks
    ∙ append_assoc e (mark (codes ")") ∷ []) (mark (codes "{") ∷ ((b ++ (mark (codes "}") ∷ [])) ++ ks))
    ∙ ap (λ z. e ++ (mark (codes ")") ∷ mark (codes "{") ∷ z)) (append_assoc b (mark (codes "}") ∷ []) ks)

abbrev otherwise : List Kind → List Kind → List Kind
otherwise b ks = a_name (codes "else") ∷ mark (codes "{") ∷ (b ++ closing ks)

else_groups : (e a b ks : List Kind)
    → (((e ++ (mark (codes ")") ∷ [])) ++ (mark (codes "{") ∷ (a ++ (mark (codes "}") ∷ [])))) ++ (a_name (codes "else") ∷ mark (codes "{") ∷ (b ++ (mark (codes "}") ∷ [])))) ++ ks
    ≡ e ++ (mark (codes ")") ∷ mark (codes "{") ∷ (a ++ closing (otherwise b ks)))
else_groups e a b ks =
    append_assoc ((e ++ (mark (codes ")") ∷ [])) ++ (mark (codes "{") ∷ (a ++ (mark (codes "}") ∷ [])))) (a_name (codes "else") ∷ mark (codes "{") ∷ (b ++ (mark (codes "}") ∷ []))) ks
    ∙ if_groups e a (a_name (codes "else") ∷ mark (codes "{") ∷ ((b ++ (mark (codes "}") ∷ [])) ++ ks))
    ∙ ap (λ z. e ++ (mark (codes ")") ∷ mark (codes "{") ∷ (a ++ closing (a_name (codes "else") ∷ mark (codes "{") ∷ z)))) (append_assoc b (mark (codes "}") ∷ []) ks)

number_is : (a b : ℕ) → (a == b) ≡ true → a ≡ b
number_is a b h = grind (arith, nat_tests, h)

mutual
  stmt_said : (t : ProgramText) (i : Bool) (ns : List ℕ) → Known t → (s : StmtText) (ks : List Kind) → kept (stmt_pieces t (standing t i ns) s) ≡ true
      → stmt_tokens (program_of_text t) (stmt_meant t s) ++ ks ≡ stmt_then s ks
  stmt_said t i ns k (w_set_meta x e) ks h =
      let own = and_parts (stmt_keeps t (standing t i ns) (w_set_meta x e)) true h in
      let some = same_some (meta_sort (program_of_text t) (meta_at t x)) (p4_sort (standing t i ns) (expr_meant t e)) own.0 in
      assigned (meta_tokens (program_of_text t) (meta_at t x)) (e_tokens t e) ks
      ∙ meta_use t x (mark (codes "=") ∷ (e_tokens t e ++ (mark (codes ";") ∷ ks))) (of_map (λ (f : P4Field). bits_sort f.width) (slice_get (program_of_text t).meta (meta_at t x)) some.0)
      ∙ ap (λ z. a_name (codes "m") ∷ mark (codes ".") ∷ a_name x ∷ mark (codes "=") ∷ z) (expr_said t i ns k e (mark (codes ";") ∷ ks) some.1)
  stmt_said t i ns k (w_set_field g f e) ks h =
      let own = and_parts (stmt_keeps t (standing t i ns) (w_set_field g f e)) true h in
      let some = same_some (field_sort (program_of_text t) (header_at t g) (field_at t (header_at t g) f)) (p4_sort (standing t i ns) (expr_meant t e)) own.0 in
      assigned (field_tokens (program_of_text t) (header_at t g) (field_at t (header_at t g) f)) (e_tokens t e) ks
      ∙ field_use t g f (mark (codes "=") ∷ (e_tokens t e ++ (mark (codes ";") ∷ ks))) k some.0
      ∙ ap (λ z. a_name (codes "h") ∷ mark (codes ".") ∷ a_name g ∷ mark (codes ".") ∷ a_name f ∷ mark (codes "=") ∷ z) (expr_said t i ns k e (mark (codes ";") ∷ ks) some.1)
  stmt_said t i ns k (w_apply x) ks h =
      let own = and_parts (stmt_keeps t (standing t i ns) (w_apply x)) true h in
      let called = and_parts (stmt_fits (standing t i ns) (stmt_meant t (w_apply x))) (same_name x (codes "t" ++ decimal (number_in x))) own.0 in
      ap (λ z. a_name z ∷ mark (codes ".") ∷ a_name (codes "apply") ∷ mark (codes "(") ∷ mark (codes ")") ∷ mark (codes ";") ∷ ks) (sym (name_is x (codes "t" ++ decimal (number_in x)) called.1))
  stmt_said t i ns k (w_if e a) ks h =
      let p = and_parts (stmt_keeps t (standing t i ns) (w_if e a)) (kept (block_pieces t (standing t i ns) a ++ (_ ∷ []))) h in
      let body = (kept_parts (block_pieces t (standing t i ns) a) (_ ∷ []) p.1).0 in
      ap (λ z. a_name (codes "if") ∷ mark (codes "(") ∷ z)
      (if_groups (e_tokens t e) (b_tokens t a) ks
      ∙ ap (λ z. e_tokens t e ++ (mark (codes ")") ∷ mark (codes "{") ∷ z)) (block_said t i ns k a (closing ks) body)
      ∙ expr_said t i ns k e (mark (codes ")") ∷ mark (codes "{") ∷ block_then a (closing ks)) (has_some truth_sort (p4_sort (standing t i ns) (expr_meant t e)) p.0))
  stmt_said t i ns k (w_if_else e a b) ks h =
      let c = standing t i ns in
      let p = and_parts (stmt_keeps t c (w_if_else e a b)) (kept (block_pieces t c a ++ (_ ∷ (block_pieces t c b ++ (_ ∷ []))))) h in
      let q = kept_parts (block_pieces t c a) (_ ∷ (block_pieces t c b ++ (_ ∷ []))) p.1 in
      let r = kept_parts (block_pieces t c b) (_ ∷ []) q.1 in
      let own = and_parts (has_sort truth_sort (p4_sort c (expr_meant t e))) (not (is_empty (block_meant t b))) p.0 in
      let second : List Kind = a_name (codes "else") ∷ mark (codes "{") ∷ block_then b (closing ks) in
      ap (λ z. a_name (codes "if") ∷ mark (codes "(") ∷ z)
      (else_groups (e_tokens t e) (b_tokens t a) (b_tokens t b) ks
      ∙ ap (λ z. e_tokens t e ++ (mark (codes ")") ∷ mark (codes "{") ∷ (b_tokens t a ++ closing (a_name (codes "else") ∷ mark (codes "{") ∷ z)))) (block_said t i ns k b (closing ks) r.0)
      ∙ ap (λ z. e_tokens t e ++ (mark (codes ")") ∷ mark (codes "{") ∷ z)) (block_said t i ns k a (closing second) q.0)
      ∙ expr_said t i ns k e (mark (codes ")") ∷ mark (codes "{") ∷ block_then a (closing second)) (has_some truth_sort (p4_sort c (expr_meant t e)) own.0))
  stmt_said t i ns k (w_verdict w n) ks h =
      let own = and_parts (stmt_keeps t (standing t i ns) (w_verdict w n)) true h in
      let wide = and_parts (w == 8) (stmt_fits (standing t i ns) (verdict n)) own.0 in
      ap (λ z. a_name (codes "verdict") ∷ mark (codes "=") ∷ literal z n ∷ mark (codes ";") ∷ ks) (sym (number_is w 8 wide.0))
  stmt_said t i ns k (w_egress_port e) ks h =
      let own = and_parts (stmt_keeps t (standing t i ns) (w_egress_port e)) true h in
      assigned (a_name (codes "egress_port") ∷ []) (e_tokens t e) ks
      ∙ ap (λ z. a_name (codes "egress_port") ∷ mark (codes "=") ∷ z) (expr_said t i ns k e (mark (codes ";") ∷ ks) (has_some (bits_sort 16) (p4_sort (standing t i ns) (expr_meant t e)) own.0))
  stmt_said t i ns k (w_group e) ks h =
      let own = and_parts (stmt_keeps t (standing t i ns) (w_group e)) true h in
      let wide = and_parts i (has_sort (bits_sort 16) (p4_sort (standing t i ns) (expr_meant t e))) own.0 in
      assigned (a_name (codes "group") ∷ []) (e_tokens t e) ks
      ∙ ap (λ z. a_name (codes "group") ∷ mark (codes "=") ∷ z) (expr_said t i ns k e (mark (codes ";") ∷ ks) (has_some (bits_sort 16) (p4_sort (standing t i ns) (expr_meant t e)) wide.1))
  stmt_said t i ns k w_return ks h = refl

  pub block_said : (t : ProgramText) (i : Bool) (ns : List ℕ) → Known t → (b : BlockText) (ks : List Kind) → kept (block_pieces t (standing t i ns) b) ≡ true
      → block_tokens (program_of_text t) (block_meant t b) ++ ks ≡ block_then b ks
  block_said t i ns k w_done ks h = refl
  block_said t i ns k (w_then s b) ks h =
      let p = kept_parts (stmt_pieces t (standing t i ns) s) (block_pieces t (standing t i ns) b) h in
      append_assoc (stmt_tokens (program_of_text t) (stmt_meant t s)) (b_tokens t b) ks
      ∙ ap (λ z. stmt_tokens (program_of_text t) (stmt_meant t s) ++ z) (block_said t i ns k b ks p.1)
      ∙ stmt_said t i ns k s (block_then b ks) p.0

-- ---- tables

pub within_some : {A : Type 0} (xs : List A) (i : ℕ) → nat_lt i (length xs) ≡ true → is_some (slice_get xs i) ≡ true
within_some [] i h = absurd (let l : i < 0 = grind (arith, nat_tests, h) in omega (arith, l))
within_some (x ∷ xs) zero h = refl
within_some (x ∷ xs) (suc i) h = within_some xs i (less i (length xs) h)
  where
    less : (a b : ℕ) → nat_lt (suc a) (suc b) ≡ true → nat_lt a b ≡ true
    less a b h = grind (arith, nat_tests, h)

abbrev key_tokens : ProgramText → Bool → ℕ → List Kind
key_tokens t exact i = meta_tokens (program_of_text t) i ++ mark (codes ":") ∷ match_kind exact ∷ mark (codes ";") ∷ []

regroup : (a b c d : List Kind) → ((a ++ b) ++ c) ++ d ≡ a ++ (b ++ (c ++ d))
regroup a b c d = append_assoc (a ++ b) c d ∙ append_assoc a b (c ++ d)

each_key : (t : ProgramText) (exact : Bool) (xs : List (List ℕ)) (ks : List Kind) → each (λ i. nat_lt i (length (program_of_text t).meta)) (map (meta_at t) xs) ≡ true
    → flat_map (key_tokens t exact) (map (meta_at t) xs) ++ ks ≡ each_then (key_then exact) xs ks
each_key t exact [] ks h = refl
each_key t exact (x ∷ xs) ks h =
    let p = and_parts (nat_lt (meta_at t x) (length (program_of_text t).meta)) (each (λ i. nat_lt i (length (program_of_text t).meta)) (map (meta_at t) xs)) h in
    let later : List Kind = flat_map (key_tokens t exact) (map (meta_at t) xs) in
    regroup (meta_tokens (program_of_text t) (meta_at t x)) (mark (codes ":") ∷ match_kind exact ∷ mark (codes ";") ∷ []) later ks
    ∙ meta_use t x (mark (codes ":") ∷ match_kind exact ∷ mark (codes ";") ∷ (later ++ ks)) (within_some (program_of_text t).meta (meta_at t x) p.0)
    ∙ ap (key_then exact x) (each_key t exact xs ks p.1)

keys_said : (t : ProgramText) (k : KeysText) (ks : List Kind) → each (λ i. nat_lt i (length (program_of_text t).meta)) (map (meta_at t) (key_names k)) ≡ true
    → flat_map (key_tokens t (is_exact k)) (map (meta_at t) (key_names k)) ++ ks ≡ keys_then k ks
keys_said t no_keys ks h = refl
keys_said t (some_keys exact x xs) ks h = each_key t exact (x ∷ xs) ks h

-- the tokens of a table, of its parts
abbrev shape : List Kind → Kind → Kind → ℕ → List Kind → List Kind
shape result action table width keys =
    a_name (codes "action") ∷ action ∷ in_parentheses (declared width (a_name (codes "v")))
    ++ in_braces (assignment result (a_name (codes "v") ∷ []))
    ++ a_name (codes "table") ∷ table ∷ in_braces
    (a_name (codes "key") ∷ mark (codes "=") ∷ in_braces keys
    ++ a_name (codes "actions") ∷ mark (codes "=") ∷ in_braces (action ∷ mark (codes ";") ∷ [])
    ++ assignment (a_name (codes "default_action") ∷ []) (action ∷ in_parentheses (literal width 0 ∷ [])))

abbrev tail_of : List ℕ → List ℕ → ℕ → ℕ → List Kind → List Kind
tail_of actions default_action width n ks =
    mark (codes "}")
    ∷ a_name (codes "actions") ∷ mark (codes "=") ∷ mark (codes "{") ∷ a_name actions ∷ mark (codes ";") ∷ mark (codes "}")
    ∷ a_name (codes "default_action") ∷ mark (codes "=") ∷ a_name default_action ∷ mark (codes "(") ∷ literal width n ∷ mark (codes ")") ∷ mark (codes ";") ∷ mark (codes "}") ∷ ks

abbrev head_of : List ℕ → ℕ → List ℕ → List ℕ → List Kind → List Kind
head_of action width result table ks =
    a_name (codes "action") ∷ a_name action ∷ mark (codes "(") ∷ a_name (codes "bit") ∷ mark (codes "<") ∷ plain width ∷ mark (codes ">") ∷ a_name (codes "v") ∷ mark (codes ")")
    ∷ mark (codes "{") ∷ a_name (codes "m") ∷ mark (codes ".") ∷ a_name result ∷ mark (codes "=") ∷ a_name (codes "v") ∷ mark (codes ";") ∷ mark (codes "}")
    ∷ a_name (codes "table") ∷ a_name table ∷ mark (codes "{") ∷ a_name (codes "key") ∷ mark (codes "=") ∷ mark (codes "{") ∷ ks

key_groups : (k b c d e ks : List Kind) → ((((k ++ b) ++ c) ++ d) ++ e) ++ ks ≡ k ++ (b ++ (c ++ (d ++ (e ++ ks))))
key_groups k b c d e ks = append_assoc (((k ++ b) ++ c) ++ d) e ks ∙ regroup (k ++ b) c d (e ++ ks) ∙ append_assoc k b (c ++ (d ++ (e ++ ks)))

shaped : (result action table : List ℕ) (width : ℕ) (keys ks : List Kind)
    → shape (a_name (codes "m") ∷ mark (codes ".") ∷ a_name result ∷ []) (a_name action) (a_name table) width keys ++ ks ≡ head_of action width result table (keys ++ tail_of action action width 0 ks)
shaped result action table width keys ks =
    ap (head_of action width result table)
    (key_groups keys (mark (codes "}") ∷ []) (a_name (codes "actions") ∷ mark (codes "=") ∷ mark (codes "{") ∷ a_name action ∷ mark (codes ";") ∷ mark (codes "}") ∷ [])
    (a_name (codes "default_action") ∷ mark (codes "=") ∷ a_name action ∷ mark (codes "(") ∷ literal width 0 ∷ mark (codes ")") ∷ mark (codes ";") ∷ []) (mark (codes "}") ∷ []) ks)

pub record TableRules (t : ProgramText) (k : TableText) : Type 0 where
  pub action : k.action ≡ codes "a" ++ decimal (number_in k.action)
  pub result : nat_lt (meta_at t k.result) (length t.rest.meta) ≡ true
  pub width : k.width ≡ meta_width (program_of_text t) (meta_at t k.result)
  pub table : k.table ≡ codes "t" ++ decimal (number_in k.action)
  pub keys : each (λ i. nat_lt i (length (program_of_text t).meta)) (map (meta_at t) (key_names k.keys)) ≡ true
  pub actions : k.actions ≡ k.action
  pub default_action : k.default_action ≡ k.action
  pub default_width : k.default_width ≡ k.width
  pub zero : k.default ≡ 0

four_parts : (a b c d : Bool) → (a && b && c && d) ≡ true → (a ≡ true) × (c ≡ true) × (d ≡ true)
four_parts true true true true h = (refl, refl, refl)
four_parts true true true false h = absurd cc
four_parts true true false d h = absurd cc
four_parts true false c d h = absurd cc
four_parts false b c d h = absurd cc

seven_parts : (a b c d e f g : Bool) → (a && b && c && d && e && f && g) ≡ true → (a ≡ true) × (c ≡ true) × (d ≡ true) × (e ≡ true) × (f ≡ true) × (g ≡ true)
seven_parts true true true true true true true h = (refl, refl, refl, refl, refl, refl)
seven_parts true true true true true true false h = absurd cc
seven_parts true true true true true false g h = absurd cc
seven_parts true true true true false f g h = absurd cc
seven_parts true true true false e f g h = absurd cc
seven_parts true true false d e f g h = absurd cc
seven_parts true false c d e f g h = absurd cc
seven_parts false b c d e f g h = absurd cc

fits_keys : (a b c d : Bool) → (a && b && c && d) ≡ true → b ≡ true
fits_keys true true c d h = refl
fits_keys true false c d h = absurd cc
fits_keys false b c d h = absurd cc

pub table_rules : (t : ProgramText) (actions : List (List ℕ)) (numbers : List ℕ) (k : TableText) → action_keeps t actions k ≡ true → table_keeps t numbers k ≡ true → TableRules t k
table_rules t actions numbers k h j =
    let own = meta_at t k.result in
    let p = program_of_text t in
    let keys = map (meta_at t) (key_names k.keys) in
    let a = four_parts (same_name k.action (codes "a" ++ decimal (number_in k.action))) (not (is_one_of actions k.action)) (nat_lt own (length t.rest.meta)) (k.width == meta_width p own) h in
    let b = seven_parts (same_name k.table (codes "t" ++ decimal (number_in k.action))) (nat_le (least_after numbers) (number_in k.action)) (table_fits p (table_meant t k))
    (same_name k.actions k.action) (same_name k.default_action k.action) (k.default_width == k.width) (k.default == 0) j in
    record {
      action = name_is k.action (codes "a" ++ decimal (number_in k.action)) a.0;
      result = a.1;
      width = number_is k.width (meta_width p own) a.2;
      table = name_is k.table (codes "t" ++ decimal (number_in k.action)) b.0;
      keys = fits_keys (not (length keys == 0)) (each (λ i. nat_lt i (length p.meta)) keys) (nat_lt own (length p.meta)) (nat_lt (number_in k.action) (2 ^ 32 - 1)) b.1;
      actions = name_is k.actions k.action b.2;
      default_action = name_is k.default_action k.action b.3;
      default_width = number_is k.default_width k.width b.4;
      zero = number_is k.default 0 b.5;
    }

meta_is : (t : ProgramText) (x : List ℕ) → nat_lt (meta_at t x) (length t.rest.meta) ≡ true → meta_tokens (program_of_text t) (meta_at t x) ≡ a_name (codes "m") ∷ mark (codes ".") ∷ a_name x ∷ []
meta_is t x h =
    sym (append-nil (meta_tokens (program_of_text t) (meta_at t x)))
    ∙ meta_use t x [] (within_some (program_of_text t).meta (meta_at t x) (ap (λ n. nat_lt (meta_at t x) n) (length-map t.rest.meta meta_meant) ∙ h))

table_said : (t : ProgramText) (k : TableText) (ks : List Kind) → TableRules t k → table_tokens (program_of_text t) (table_meant t k) ++ ks ≡ table_then k ks
table_said t k ks r =
    let p = program_of_text t in
    let keys : List Kind = flat_map (key_tokens t (is_exact k.keys)) (map (meta_at t) (key_names k.keys)) in
    let n : ℕ = number_in k.action in
    let w : ℕ = meta_width p (meta_at t k.result) in
    ap (λ z. shape z (action_name n) (table_name n) w keys ++ ks) (meta_is t k.result r.result)
    ∙ ap (λ z. shape (a_name (codes "m") ∷ mark (codes ".") ∷ a_name k.result ∷ []) (a_name z) (table_name n) w keys ++ ks) (sym r.action)
    ∙ ap (λ z. shape (a_name (codes "m") ∷ mark (codes ".") ∷ a_name k.result ∷ []) (a_name k.action) (a_name z) w keys ++ ks) (sym r.table)
    ∙ ap (λ z. shape (a_name (codes "m") ∷ mark (codes ".") ∷ a_name k.result ∷ []) (a_name k.action) (a_name k.table) z keys ++ ks) (sym r.width)
    ∙ shaped k.result k.action k.table k.width keys ks
    ∙ ap (head_of k.action k.width k.result k.table)
    (keys_said t k.keys (tail_of k.action k.action k.width 0 ks) r.keys
    ∙ ap (λ z. keys_then k.keys (tail_of z k.action k.width 0 ks)) (sym r.actions)
    ∙ ap (λ z. keys_then k.keys (tail_of k.actions z k.width 0 ks)) (sym r.default_action)
    ∙ ap (λ z. keys_then k.keys (tail_of k.actions k.default_action z 0 ks)) (sym r.default_width)
    ∙ ap (λ z. keys_then k.keys (tail_of k.actions k.default_action k.default_width z ks)) (sym r.zero))

tables_said : (t : ProgramText) (actions : List (List ℕ)) (numbers : List ℕ) (ts : List TableText) (ks : List Kind) → kept (table_pieces t actions numbers ts) ≡ true
    → flat_map (table_tokens (program_of_text t)) (map (table_meant t) ts) ++ ks ≡ each_then table_then ts ks
tables_said t actions numbers [] ks h = refl
tables_said t actions numbers (k ∷ ts) ks h =
    let later : List Piece = table_pieces t (actions ++ (k.action ∷ [])) (numbers ++ (number_in k.action ∷ [])) ts in
    let p = and_parts (action_keeps t actions k) (table_keeps t numbers k && kept later) h in
    let q = and_parts (table_keeps t numbers k) (kept later) p.1 in
    let rest : List Kind = flat_map (table_tokens (program_of_text t)) (map (table_meant t) ts) in
    append_assoc (table_tokens (program_of_text t) (table_meant t k)) rest ks
    ∙ table_said t k (rest ++ ks) (table_rules t actions numbers k p.0 q.0)
    ∙ ap (table_then k) (tables_said t (actions ++ (k.action ∷ [])) (numbers ++ (number_in k.action ∷ [])) ts ks q.1)

-- ---- controls

control_groups : (a s b ks : List Kind) → ((a ++ (a_name (codes "apply") ∷ mark (codes "{") ∷ ((s ++ b) ++ (mark (codes "}") ∷ [])))) ++ (mark (codes "}") ∷ [])) ++ ks
    ≡ a ++ (a_name (codes "apply") ∷ mark (codes "{") ∷ (s ++ (b ++ (mark (codes "}") ∷ mark (codes "}") ∷ ks))))
control_groups a s b ks =
    append_assoc (a ++ (a_name (codes "apply") ∷ mark (codes "{") ∷ ((s ++ b) ++ (mark (codes "}") ∷ [])))) (mark (codes "}") ∷ []) ks
    ∙ append_assoc a (a_name (codes "apply") ∷ mark (codes "{") ∷ ((s ++ b) ++ (mark (codes "}") ∷ []))) (closing ks)
    ∙ ap (λ z. a ++ (a_name (codes "apply") ∷ mark (codes "{") ∷ z)) (append_assoc (s ++ b) (mark (codes "}") ∷ []) (closing ks) ∙ append_assoc s b (closing (closing ks)))

control_said : (t : ProgramText) (i : Bool) (actions : List (List ℕ)) (numbers : List ℕ) (begin : List ℕ) (c : ControlText) (ks : List Kind) → Known t
    → kept (table_pieces t actions numbers c.tables) ≡ true → kept (block_pieces t (stands_in t i c) c.body) ≡ true
    → control_tokens (program_of_text t) (record { tables = map (table_meant t) c.tables; body = block_meant t c.body }) begin ++ ks ≡ mark (codes "{") ∷ control_then begin c ks
control_said t i actions numbers begin c ks k h j =
    let tables : List Kind = flat_map (table_tokens (program_of_text t)) (map (table_meant t) c.tables) in
    ap (λ z. mark (codes "{") ∷ z)
    (control_groups tables (said begin) (b_tokens t c.body) ks
    ∙ ap (λ z. tables ++ (a_name (codes "apply") ∷ mark (codes "{") ∷ (said begin ++ z))) (block_said t i (numbers_of (map (table_meant t) c.tables)) k c.body (closing (closing ks)) j)
    ∙ tables_said t actions numbers c.tables (a_name (codes "apply") ∷ mark (codes "{") ∷ (said begin ++ block_then c.body (closing (closing ks)))) h)

-- ---- whole texts

parts_grouped : (a h s1 m s2 n s3 e s4 s5 c1 s6 c2 s7 f s8 z : List Kind) →
    (((((((((((((((a ++ h) ++ s1) ++ m) ++ s2) ++ n) ++ s3) ++ e) ++ s4) ++ s5) ++ c1) ++ s6) ++ c2) ++ s7) ++ f) ++ s8) ++ z
    ≡ a ++ (h ++ (s1 ++ (m ++ (s2 ++ (n ++ (s3 ++ (e ++ (s4 ++ (s5 ++ (c1 ++ (s6 ++ (c2 ++ (s7 ++ (f ++ (s8 ++ z)))))))))))))))
parts_grouped a h s1 m s2 n s3 e s4 s5 c1 s6 c2 s7 f s8 z = simp append_assoc

pub known : (t : ProgramText) → TextKept t → Lines (length t.headers) t.rest → Known t
known t k l = record {
  members = k.members;
  lines = l.members ∙ sym (length-map t.headers header_meant);
  named = (headers_kept [] t.headers k.headers refl).named;
}

abbrev emit_lines : List P4Header → List Kind
emit_lines hs = flat_map (λ (d : P4Header). said (codes "b.emit(h.") ++ header_name d.name ∷ said (codes ");")) hs

abbrev extract_lines : List P4Header → List Kind
extract_lines hs = flat_map (λ (d : P4Header). said (codes "b.extract(h.") ++ header_name d.name ∷ said (codes ");")) hs

abbrev ingress_tokens : Program → List Kind
ingress_tokens p = control_tokens p p.ingress (codes "verdict = 8w0; egress_port = 16w0; group = 16w0;")

abbrev egress_tokens : Program → List Kind
egress_tokens p = control_tokens p p.egress (codes "verdict = 8w0; egress_port = 16w0;")

abbrev in_control : List ℕ
in_control = codes "control Ing(inout Headers h, inout Meta m, in bit<16> port, out bit<8> verdict, out bit<16> egress_port, out bit<16> group)"

abbrev out_control : List ℕ
out_control = codes "control Egr(inout Headers h, inout Meta m, in bit<64> rid, out bit<8> verdict, out bit<16> egress_port)"

ingress_head_is : (ks : List Kind) → said (codes "transition accept; } }") ++ (said in_control ++ (mark (codes "{") ∷ ks)) ≡ said ingress_head ++ ks
ingress_head_is ks = refl

egress_head_is : (ks : List Kind) → said out_control ++ (mark (codes "{") ∷ ks) ≡ said egress_head ++ ks
egress_head_is ks = refl

meta_head_is : (ks : List Kind) → mark (codes "}") ∷ (said (codes "struct Meta") ++ (mark (codes "{") ∷ ks)) ≡ said (codes "} struct Meta {") ++ ks
meta_head_is ks = refl

abbrev last_tokens : List Kind
last_tokens = said text_end ++ (finish ∷ [])

abbrev from_deparser : Program → List Kind
from_deparser p = said deparser_head ++ (emit_lines p.headers ++ last_tokens)

abbrev from_egress : Program → List Kind
from_egress p = said out_control ++ (egress_tokens p ++ from_deparser p)

abbrev from_ingress : Program → List Kind
from_ingress p = said (codes "transition accept; } }") ++ (said in_control ++ (ingress_tokens p ++ from_egress p))

abbrev from_parser : Program → List Kind
from_parser p = said parser_head ++ (extract_lines p.headers ++ from_ingress p)

abbrev from_meta : Program → List Kind
from_meta p = said (codes "struct Meta") ++ (in_braces (flat_map meta_member_tokens p.meta) ++ from_parser p)

abbrev from_struct : Program → List Kind
from_struct p = said (codes "struct Headers") ++ (in_braces (flat_map member_tokens p.headers) ++ from_meta p)

tokens_grouped : (p : Program) → program_tokens p ≡ architecture ++ (flat_map header_tokens p.headers ++ from_struct p)
tokens_grouped p =
    parts_grouped architecture (flat_map header_tokens p.headers) (said (codes "struct Headers")) (in_braces (flat_map member_tokens p.headers)) (said (codes "struct Meta")) (in_braces (flat_map meta_member_tokens p.meta))
    (said parser_head) (extract_lines p.headers) (said (codes "transition accept; } }")) (said in_control) (ingress_tokens p) (said out_control) (egress_tokens p)
    (said deparser_head) (emit_lines p.headers) (said text_end) (finish ∷ [])

-- in braces, and what follows
braced : (a ks : List Kind) → in_braces a ++ ks ≡ mark (codes "{") ∷ (a ++ closing ks)
braced a ks = ap (λ z. mark (codes "{") ∷ z) (append_assoc a (mark (codes "}") ∷ []) ks)

pub text_said : (t : ProgramText) → Lines (length t.headers) t.rest → kind_faults t ≡ [] → text_tokens t ≡ program_tokens (program_of_text t)
text_said t l e =
    let p = program_of_text t in
    let k = text_kept t e in
    let o = known t k l in
    let count : length p.headers ≡ length t.headers = length-map t.headers header_meant in
    let deparser : from_deparser p ≡ deparser_then t.rest [] =
    ap (λ z. said deparser_head ++ z) (emits_said p.headers t.rest.emits last_tokens k.emits (l.emits ∙ sym count)) in
    let egress : from_egress p ≡ egress_then t.rest [] =
    ap (λ z. said out_control ++ (egress_tokens p ++ z)) deparser
    ∙ ap (λ z. said out_control ++ z) (control_said t false (map (λ (x : TableText). x.action) t.rest.ingress.tables) (numbers_of (map (table_meant t) t.rest.ingress.tables)) egress_begins t.rest.egress (deparser_then t.rest []) o k.egress_tables k.egress_body)
    ∙ egress_head_is (control_then egress_begins t.rest.egress (deparser_then t.rest [])) in
    let ingress : from_ingress p ≡ ingress_then t.rest [] =
    ap (λ z. said (codes "transition accept; } }") ++ (said in_control ++ (ingress_tokens p ++ z))) egress
    ∙ ap (λ z. said (codes "transition accept; } }") ++ (said in_control ++ z)) (control_said t true [] [] ingress_begins t.rest.ingress (egress_then t.rest []) o k.ingress_tables k.ingress_body)
    ∙ ingress_head_is (control_then ingress_begins t.rest.ingress (egress_then t.rest [])) in
    let parser : from_parser p ≡ parser_then t.rest [] =
    ap (λ z. said parser_head ++ (extract_lines p.headers ++ z)) ingress
    ∙ ap (λ z. said parser_head ++ z) (extracts_said p.headers t.rest.extracts (ingress_then t.rest []) k.extracts (l.extracts ∙ sym count)) in
    let meta : closing (from_meta p) ≡ meta_then t.rest [] =
    ap (λ z. closing (said (codes "struct Meta") ++ z)) (braced (flat_map meta_member_tokens p.meta) (from_parser p) ∙ ap (λ z. mark (codes "{") ∷ z) (meta_said t.rest.meta (closing (from_parser p)) ∙ ap (λ z. each_then field_then t.rest.meta (closing z)) parser))
    ∙ meta_head_is (each_then field_then t.rest.meta (closing (parser_then t.rest []))) in
    let struct : from_struct p ≡ rest_then t.rest [] =
    ap (λ z. said (codes "struct Headers") ++ z) (braced (flat_map member_tokens p.headers) (from_meta p)
    ∙ ap (λ z. mark (codes "{") ∷ z) (members_said p.headers t.rest.members (closing (from_meta p)) k.members o.lines ∙ ap (λ z. each_then member_then t.rest.members z) meta)) in
    sym (tokens_grouped p ∙ ap (λ z. architecture ++ z) (ap (λ z. flat_map header_tokens p.headers ++ z) struct ∙ headers_said t.headers (rest_then t.rest []) o.named))
