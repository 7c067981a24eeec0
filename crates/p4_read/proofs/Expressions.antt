-- An expression is known from its tokens and what follows, where no slice follows.
use Rattle.std.specs.Prelude.{◌≡◌, ℕ, Bool, true, false, List, [], ◌∷◌, codes, drop, if◌then◌else◌, refl}
use Rattle.std.proofs.Common.{sym, ◌∙◌, ap, ap₂}
use Rattle.cocoon_num.specs.Names.{same_name}
use Rattle.cocoon_num.specs.Values.{UnaryOp, flip, not_}
use Rattle.cocoon_num.specs.Tokens.{Kind, a_name, literal, mark}
use Rattle.p4_ir.specs.P4Text.{binary_mark, unary_mark}
use Rattle.p4_ir.specs.Program.{binary_of}
use Rattle.p4_ir.specs.declared.program.P4Binary.{P4Binary}
use Rattle.p4_ir.specs.declared.program.P4Binary.TheVariants.{Add, Sub, BitAnd, BitOr, BitXor, Concat, Equal, Unequal, Less, LessEqual, Greater, GreaterEqual, And, Or}
use Rattle.p4_texts.specs.Written.{ExprText, w_lit, w_truth, w_meta, w_field, w_port, w_rid, w_unary, w_binary, w_slice, w_pick, expr_then}
use Rattle.p4_texts.proofs.Spells.{Bits, slices_then, with_slices}
use Rattle.p4_read.proofs.Tokens.{differ, first_number, first_width, name_at, mark_at}

-- no slice begins here
abbrev pub opens_slice : List Kind → Bool
opens_slice (mark m ∷ ks) = same_name m (codes "[")
opens_slice _ = false

-- ---- slices

pub same_slices : (ss ts : List Bits) (ks ls : List Kind) → opens_slice ks ≡ false → opens_slice ls ≡ false → slices_then ss ks ≡ slices_then ts ls → (ss ≡ ts) × (ks ≡ ls)
same_slices [] [] ks ls p q e = (refl, e)
same_slices [] (t ∷ ts) ks ls p q e = let no : opens_slice (slices_then (t ∷ ts) ls) ≡ false = ap opens_slice (sym e) ∙ p in absurd cc
same_slices (s ∷ ss) [] ks ls p q e = let no : opens_slice (slices_then (s ∷ ss) ks) ≡ false = ap opens_slice e ∙ q in absurd cc
same_slices (s ∷ ss) (t ∷ ts) ks ls p q e =
    let high : s.high ≡ t.high = cc in
    let low : s.low ≡ t.low = cc in
    let rest : slices_then ss ks ≡ slices_then ts ls = cc in
    let r = same_slices ss ts ks ls p q rest in
    let one : s ≡ t = ap₂ (λ h l. record { high = h; low = l }) high low in
    (ap₂ (λ x xs. x ∷ xs) one r.0, r.1)

-- ---- operators

abbrev op_of : List ℕ → P4Binary
op_of m =
    if same_name m (codes "+") then Add
    else if same_name m (codes "-") then Sub
    else if same_name m (codes "&") then BitAnd
    else if same_name m (codes "|") then BitOr
    else if same_name m (codes "^") then BitXor
    else if same_name m (codes "++") then Concat
    else if same_name m (codes "==") then Equal
    else if same_name m (codes "!=") then Unequal
    else if same_name m (codes "<") then Less
    else if same_name m (codes "<=") then LessEqual
    else if same_name m (codes ">") then Greater
    else if same_name m (codes ">=") then GreaterEqual
    else if same_name m (codes "&&") then And
    else Or

op_back : (op : P4Binary) → op_of (binary_mark (binary_of op)) ≡ op
op_back Add = refl
op_back op = refl

same_op : (op po : P4Binary) → binary_mark (binary_of op) ≡ binary_mark (binary_of po) → op ≡ po
same_op op po e = sym (op_back op) ∙ ap op_of e ∙ op_back po

op_apart : (op : P4Binary) (ks : List Kind) → opens_slice (mark (binary_mark (binary_of op)) ∷ ks) ≡ false
op_apart Add ks = refl
op_apart op ks = refl

no_pick : (op : P4Binary) → same_name (binary_mark (binary_of op)) (codes "?") ≡ false
no_pick Add = refl
no_pick op = refl

-- ---- what stands first

-- no expression begins with an operator of one operand
abbrev is_prefix : List Kind → Bool
is_prefix (mark m ∷ ks) = if same_name m (codes "~") then true else same_name m (codes "!")
is_prefix _ = false

unary_prefix : (op : UnaryOp) (ks : List Kind) → is_prefix (mark (unary_mark op) ∷ ks) ≡ true
unary_prefix flip ks = refl
unary_prefix not_ ks = refl

no_prefix : (e : ExprText) (ks : List Kind) → is_prefix (expr_then e ks) ≡ false
no_prefix (w_truth true) ks = refl
no_prefix (w_truth false) ks = refl
no_prefix (w_slice a high low) ks = no_prefix a _
no_prefix e ks = refl

not_both : (op : UnaryOp) (ks : List Kind) (e : ExprText) (ls : List Kind) → mark (unary_mark op) ∷ ks ≡ expr_then e ls → ⊥
not_both op ks e ls h = let no : true ≡ false = sym (unary_prefix op ks) ∙ ap is_prefix h ∙ no_prefix e ls in cc

same_unary : (op po : UnaryOp) → unary_mark op ≡ unary_mark po → op ≡ po
same_unary flip flip e = refl
same_unary not_ not_ e = refl
same_unary flip not_ e = absurd (let no : true ≡ false = ap (λ m. same_name m (codes "~")) e in cc)
same_unary not_ flip e = absurd (let no : true ≡ false = ap (λ m. same_name m (codes "!")) e in cc)

-- which expression begins so; those in brackets are told apart later
abbrev word_way : List ℕ → ℕ
word_way x =
    if same_name x (codes "true") then 1
    else if same_name x (codes "false") then 2
    else if same_name x (codes "m") then 3
    else if same_name x (codes "h") then 4
    else if same_name x (codes "port") then 5
    else if same_name x (codes "rid") then 6
    else 7

abbrev way_of : List Kind → ℕ
way_of (literal w n ∷ ks) = 0
way_of (a_name x ∷ ks) = word_way x
way_of _ = 8

-- ---- expressions

-- with the slices that follow it, an expression is that of its tokens
abbrev pub Unique : ExprText → Type 0
Unique e = (f : ExprText) (ss ts : List Bits) (ks ls : List Kind) → opens_slice ks ≡ false → opens_slice ls ≡ false
    → expr_then e (slices_then ss ks) ≡ expr_then f (slices_then ts ls) → (with_slices e ss ≡ with_slices f ts) × (ks ≡ ls)

-- the slices of two like expressions
both : (e f : ExprText) (ss ts : List Bits) (ks ls : List Kind) → opens_slice ks ≡ false → opens_slice ls ≡ false → e ≡ f → slices_then ss ks ≡ slices_then ts ls
    → (with_slices e ss ≡ with_slices f ts) × (ks ≡ ls)
both e f ss ts ks ls p q h rest = let r = same_slices ss ts ks ls p q rest in (ap₂ with_slices h r.0, r.1)

unique_lit : (w n : ℕ) → Unique (w_lit w n)
unique_lit w n (w_slice b high low) ss ts ks ls p q e = unique_lit w n b ss (record { high = high; low = low } ∷ ts) ks ls p q e
unique_lit w n (w_lit v m) ss ts ks ls p q e = both (w_lit w n) (w_lit v m) ss ts ks ls p q (ap₂ w_lit (ap first_width e) (ap first_number e)) (ap (drop 1) e)
unique_lit w n (w_truth true) ss ts ks ls p q e = absurd (differ way_of _ _ e refl)
unique_lit w n (w_truth false) ss ts ks ls p q e = absurd (differ way_of _ _ e refl)
unique_lit w n f ss ts ks ls p q e = absurd (differ way_of _ _ e refl)

unique_true : Unique (w_truth true)
unique_true (w_slice a high low) ss ts ks ls p q e = unique_true a ss (record { high = high; low = low } ∷ ts) ks ls p q e
unique_true (w_truth true) ss ts ks ls p q e = both (w_truth true) (w_truth true) ss ts ks ls p q refl (ap (drop 1) e)
unique_true (w_truth false) ss ts ks ls p q e = absurd (differ way_of _ _ e refl)
unique_true f ss ts ks ls p q e = absurd (differ way_of _ _ e refl)

unique_false : Unique (w_truth false)
unique_false (w_slice a high low) ss ts ks ls p q e = unique_false a ss (record { high = high; low = low } ∷ ts) ks ls p q e
unique_false (w_truth false) ss ts ks ls p q e = both (w_truth false) (w_truth false) ss ts ks ls p q refl (ap (drop 1) e)
unique_false (w_truth true) ss ts ks ls p q e = absurd (differ way_of _ _ e refl)
unique_false f ss ts ks ls p q e = absurd (differ way_of _ _ e refl)

unique_meta : (x : List ℕ) → Unique (w_meta x)
unique_meta x (w_slice a high low) ss ts ks ls p q e = unique_meta x a ss (record { high = high; low = low } ∷ ts) ks ls p q e
unique_meta x (w_meta y) ss ts ks ls p q e = both (w_meta x) (w_meta y) ss ts ks ls p q (ap w_meta (ap (name_at 2) e)) (ap (drop 3) e)
unique_meta x (w_truth true) ss ts ks ls p q e = absurd (differ way_of _ _ e refl)
unique_meta x (w_truth false) ss ts ks ls p q e = absurd (differ way_of _ _ e refl)
unique_meta x f ss ts ks ls p q e = absurd (differ way_of _ _ e refl)

unique_field : (h f : List ℕ) → Unique (w_field h f)
unique_field h f (w_slice a high low) ss ts ks ls p q e = unique_field h f a ss (record { high = high; low = low } ∷ ts) ks ls p q e
unique_field h f (w_field i g) ss ts ks ls p q e = both (w_field h f) (w_field i g) ss ts ks ls p q (ap₂ w_field (ap (name_at 2) e) (ap (name_at 4) e)) (ap (drop 5) e)
unique_field h f (w_truth true) ss ts ks ls p q e = absurd (differ way_of _ _ e refl)
unique_field h f (w_truth false) ss ts ks ls p q e = absurd (differ way_of _ _ e refl)
unique_field h f g ss ts ks ls p q e = absurd (differ way_of _ _ e refl)

unique_port : Unique w_port
unique_port (w_slice a high low) ss ts ks ls p q e = unique_port a ss (record { high = high; low = low } ∷ ts) ks ls p q e
unique_port w_port ss ts ks ls p q e = both w_port w_port ss ts ks ls p q refl (ap (drop 1) e)
unique_port (w_truth true) ss ts ks ls p q e = absurd (differ way_of _ _ e refl)
unique_port (w_truth false) ss ts ks ls p q e = absurd (differ way_of _ _ e refl)
unique_port f ss ts ks ls p q e = absurd (differ way_of _ _ e refl)

unique_rid : Unique w_rid
unique_rid (w_slice a high low) ss ts ks ls p q e = unique_rid a ss (record { high = high; low = low } ∷ ts) ks ls p q e
unique_rid w_rid ss ts ks ls p q e = both w_rid w_rid ss ts ks ls p q refl (ap (drop 1) e)
unique_rid (w_truth true) ss ts ks ls p q e = absurd (differ way_of _ _ e refl)
unique_rid (w_truth false) ss ts ks ls p q e = absurd (differ way_of _ _ e refl)
unique_rid f ss ts ks ls p q e = absurd (differ way_of _ _ e refl)

unique_unary : (op : UnaryOp) (a : ExprText) → Unique a → Unique (w_unary op a)
unique_unary op a one (w_slice b high low) ss ts ks ls p q e = unique_unary op a one b ss (record { high = high; low = low } ∷ ts) ks ls p q e
unique_unary op a one (w_unary po b) ss ts ks ls p q e =
    let operator : op ≡ po = same_unary op po (ap (mark_at 1) e) in
    let r = one b [] [] (mark (codes ")") ∷ slices_then ss ks) (mark (codes ")") ∷ slices_then ts ls) refl refl (ap (drop 2) e) in
    both (w_unary op a) (w_unary po b) ss ts ks ls p q (ap₂ w_unary operator r.0) (ap (drop 1) r.1)
unique_unary op a one (w_binary po b c) ss ts ks ls p q e = absurd (not_both op _ b _ (ap (drop 1) e))
unique_unary op a one (w_pick d b c) ss ts ks ls p q e = absurd (not_both op _ d _ (ap (drop 1) e))
unique_unary op a one (w_truth true) ss ts ks ls p q e = absurd (differ way_of _ _ e refl)
unique_unary op a one (w_truth false) ss ts ks ls p q e = absurd (differ way_of _ _ e refl)
unique_unary op a one f ss ts ks ls p q e = absurd (differ way_of _ _ e refl)

op_or_pick : (op : P4Binary) (ks ls : List Kind) → mark (binary_mark (binary_of op)) ∷ ks ≡ mark (codes "?") ∷ ls → ⊥
op_or_pick op ks ls e = let no : false ≡ true = sym (no_pick op) ∙ ap (λ z. same_name (mark_at 0 z) (codes "?")) e in cc

unique_binary : (op : P4Binary) (a b : ExprText) → Unique a → Unique b → Unique (w_binary op a b)
unique_binary op a b one two (w_slice c high low) ss ts ks ls p q e = unique_binary op a b one two c ss (record { high = high; low = low } ∷ ts) ks ls p q e
unique_binary op a b one two (w_unary po c) ss ts ks ls p q e = absurd (not_both po _ a _ (sym (ap (drop 1) e)))
unique_binary op a b one two (w_binary po c d) ss ts ks ls p q e =
    let after_a = expr_then b (mark (codes ")") ∷ slices_then ss ks) in
    let after_c = expr_then d (mark (codes ")") ∷ slices_then ts ls) in
    let r = one c [] [] (mark (binary_mark (binary_of op)) ∷ after_a) (mark (binary_mark (binary_of po)) ∷ after_c) (op_apart op after_a) (op_apart po after_c) (ap (drop 1) e) in
    let operator : op ≡ po = same_op op po (ap (mark_at 0) r.1) in
    let s = two d [] [] (mark (codes ")") ∷ slices_then ss ks) (mark (codes ")") ∷ slices_then ts ls) refl refl (ap (drop 1) r.1) in
    both (w_binary op a b) (w_binary po c d) ss ts ks ls p q (ap₂ (λ o x. w_binary o x b) operator r.0 ∙ ap (w_binary po c) s.0) (ap (drop 1) s.1)
unique_binary op a b one two (w_pick c d f) ss ts ks ls p q e =
    let after_a = expr_then b (mark (codes ")") ∷ slices_then ss ks) in
    let after_c = expr_then d (mark (codes ":") ∷ expr_then f (mark (codes ")") ∷ slices_then ts ls)) in
    let r = one c [] [] (mark (binary_mark (binary_of op)) ∷ after_a) (mark (codes "?") ∷ after_c) (op_apart op after_a) refl (ap (drop 1) e) in
    absurd (op_or_pick op after_a after_c r.1)
unique_binary op a b one two (w_truth true) ss ts ks ls p q e = absurd (differ way_of _ _ e refl)
unique_binary op a b one two (w_truth false) ss ts ks ls p q e = absurd (differ way_of _ _ e refl)
unique_binary op a b one two f ss ts ks ls p q e = absurd (differ way_of _ _ e refl)

unique_pick : (c a b : ExprText) → Unique c → Unique a → Unique b → Unique (w_pick c a b)
unique_pick c a b one two three (w_slice d high low) ss ts ks ls p q e = unique_pick c a b one two three d ss (record { high = high; low = low } ∷ ts) ks ls p q e
unique_pick c a b one two three (w_unary po d) ss ts ks ls p q e = absurd (not_both po _ c _ (sym (ap (drop 1) e)))
unique_pick c a b one two three (w_binary po d f) ss ts ks ls p q e =
    let after_c = expr_then a (mark (codes ":") ∷ expr_then b (mark (codes ")") ∷ slices_then ss ks)) in
    let after_d = expr_then f (mark (codes ")") ∷ slices_then ts ls) in
    let r = one d [] [] (mark (codes "?") ∷ after_c) (mark (binary_mark (binary_of po)) ∷ after_d) refl (op_apart po after_d) (ap (drop 1) e) in
    absurd (op_or_pick po after_d after_c (sym r.1))
unique_pick c a b one two three (w_pick d f g) ss ts ks ls p q e =
    let after_a = expr_then b (mark (codes ")") ∷ slices_then ss ks) in
    let after_f = expr_then g (mark (codes ")") ∷ slices_then ts ls) in
    let r = one d [] [] (mark (codes "?") ∷ expr_then a (mark (codes ":") ∷ after_a)) (mark (codes "?") ∷ expr_then f (mark (codes ":") ∷ after_f)) refl refl (ap (drop 1) e) in
    let s = two f [] [] (mark (codes ":") ∷ after_a) (mark (codes ":") ∷ after_f) refl refl (ap (drop 1) r.1) in
    let t = three g [] [] (mark (codes ")") ∷ slices_then ss ks) (mark (codes ")") ∷ slices_then ts ls) refl refl (ap (drop 1) s.1) in
    both (w_pick c a b) (w_pick d f g) ss ts ks ls p q (ap₂ (λ x y. w_pick x y b) r.0 s.0 ∙ ap (w_pick d f) t.0) (ap (drop 1) t.1)
unique_pick c a b one two three (w_truth true) ss ts ks ls p q e = absurd (differ way_of _ _ e refl)
unique_pick c a b one two three (w_truth false) ss ts ks ls p q e = absurd (differ way_of _ _ e refl)
unique_pick c a b one two three f ss ts ks ls p q e = absurd (differ way_of _ _ e refl)

unique : (e : ExprText) → Unique e
unique (w_lit w n) = unique_lit w n
unique (w_truth true) = unique_true
unique (w_truth false) = unique_false
unique (w_meta x) = unique_meta x
unique (w_field h f) = unique_field h f
unique w_port = unique_port
unique w_rid = unique_rid
unique (w_unary op a) = unique_unary op a (unique a)
unique (w_binary op a b) = unique_binary op a b (unique a) (unique b)
unique (w_slice a high low) = λ f ss ts ks ls p q e. unique a f (record { high = high; low = low } ∷ ss) ts ks ls p q e
unique (w_pick c a b) = unique_pick c a b (unique c) (unique a) (unique b)

pub same_expr : (e f : ExprText) (ks ls : List Kind) → opens_slice ks ≡ false → opens_slice ls ≡ false → expr_then e ks ≡ expr_then f ls → (e ≡ f) × (ks ≡ ls)
same_expr e f ks ls p q h = unique e f [] [] ks ls p q h
