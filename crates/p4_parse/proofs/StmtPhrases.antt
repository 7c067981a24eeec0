-- Statements, as the plain reader takes them.
use Rattle.std.specs.Prelude.{◌≡◌, ℕ, ◌+◌, ◌<◌, ◌≤◌, ◌&&◌, Bool, true, false, not, List, [], ◌∷◌, ◌++◌, length, map, drop, slice_get, Option, Some, None, Result, Ok, Err, codes, refl, if◌then◌else◌, ◌⊎◌}
use Rattle.std.proofs.Common.{sym, ◌∙◌, ap, subst, arith, inl, inr}
use Rattle.std.proofs.lemmas.Option.{slice_get_within}
use Rattle.std.proofs.lemmas.List.{map-append}
use Rattle.cocoon_num.specs.Names.{same_name}
use Rattle.cocoon_num.specs.Tokens.{Kind, a_name, keyword, plain, literal, mark, finish}
use Rattle.p4_texts.specs.Machine.{Goal, Goals, any_name, after_else, after_first, after_header, after_meta, an_expr, dotted, stmts, stmts_or_else, stuck, takes, the_mark, to_semicolon}
use Rattle.p4_texts.specs.Written.{StmtText, BlockText, w_done, w_if, w_if_else, stmt_then, block_then}
use Rattle.std.specs.Prelude.{Vec}
use Rattle.std.specs.Global.{Global}
use Rattle.p4_texts.specs.TreeOf.{block_of, body_of, expr_of, stmt_of}
use Rattle.p4_texts.specs.declared.written.WrittenExpr.{WrittenExpr}
use Rattle.p4_parse.specs.Phrases.{NoName, Read, Refused, Phrase, Fixed, else_at, is_mark, is_word, name_in}
use Rattle.p4_parse.specs.Tails.{ReadTail, TailAt, SoFar, after_if, braced_goals, braced_then, guarded_then, call_goals, setting_goals, assignment_goals, verdict_goals, if_goals, guarded_goals}
use Rattle.p4_texts.specs.declared.written.WrittenStmt.{WrittenStmt}
use Rattle.parsing.specs.declared.stop.Stop.{Stop}
use Rattle.parsing.specs.declared.stop.Stop.TheVariants.{Unexpected, NoMemory}
use Rattle.p4_parse.proofs.Tokens.{drop_some, drop_none, left, refused_at, mark_is, word_is, same_text}

-- these goals, with statements after them, are met as those are
abbrev pub Same : List Kind → ℕ → Goals → Goals → Type 0
Same ts pos gs js = (hs : Goals) → stuck (gs ++ hs) (drop pos ts) ≡ stuck (js ++ (stmts ∷ hs)) (drop pos ts)

pub tail_refused : (ts : List Kind) (pos : ℕ) (gs js : Goals) (i : ℕ) → Same ts pos gs js → Refused js ts pos i → Refused gs ts pos i
tail_refused ts pos gs js i s r = record { within = r.within; there = λ hs. s hs ∙ r.there (stmts ∷ hs) }

pub tail_read : {A : Type 0} (f : A → List Kind → List Kind) (ts : List Kind) (pos : ℕ) (gs js : Goals) (before : List Kind → List Kind) (x : A) (n : ℕ) (s d : StmtText) → Same ts pos gs js → Read js f ts pos x n → d ≡ s
    → ((ks : List Kind) → before (f x ks) ≡ stmt_then s ks) → ReadTail gs before ts pos d n
tail_read f ts pos gs js before x n s d same r e h = subst (λ z. ReadTail gs before ts pos z n) (sym e) (record {
  after = r.after;
  within = r.within;
  are = ap before r.are ∙ h (drop n ts);
  goes = λ hs. same hs ∙ r.goes (stmts ∷ hs);
})

pub tail_fails : {A : Type 0} (f : A → List Kind → List Kind) (ts : List Kind) (pos q : ℕ) (gs js : Goals) (before : List Kind → List Kind) (r : Result (WrittenStmt × ℕ) Stop) (stop : Stop) → r ≡ Err stop
    → ((i : ℕ) → Refused js ts q i → Refused gs ts pos i) → Phrase js f ts q (Err stop) → TailAt gs before ts pos r
tail_fails f ts pos q gs js before r (Unexpected i) e h x = subst (λ z. TailAt gs before ts pos z) (sym e) (h i x)
tail_fails f ts pos q gs js before r NoMemory e h x = subst (λ z. TailAt gs before ts pos z) (sym e) tt

pub tail_fixed_fails : (ks ts : List Kind) (pos q : ℕ) (gs js : Goals) (before : List Kind → List Kind) (r : Result (WrittenStmt × ℕ) Stop) (stop : Stop) → r ≡ Err stop
    → ((i : ℕ) → Refused js ts q i → Refused gs ts pos i) → Fixed js ks ts q (Err stop) → TailAt gs before ts pos r
tail_fixed_fails ks ts pos q gs js before r (Unexpected i) e h x = subst (λ z. TailAt gs before ts pos z) (sym e) (h i x)
tail_fixed_fails ks ts pos q gs js before r NoMemory e h x = subst (λ z. TailAt gs before ts pos z) (sym e) tt

-- a tail from further on
pub tail_moved : (ts : List Kind) (pos q : ℕ) (gs js : Goals) (before past : List Kind → List Kind) (r : Result (WrittenStmt × ℕ) Stop) → pos ≤ q → before (drop pos ts) ≡ past (drop q ts)
    → ((hs : Goals) → stuck (gs ++ hs) (drop pos ts) ≡ stuck (js ++ hs) (drop q ts)) → TailAt js past ts q r → TailAt gs before ts pos r
tail_moved ts pos q gs js before past (Ok found) l e s x =
    let a = x.after in
    record { after = omega (arith, l, a); within = x.within; are = e ∙ x.are; goes = λ hs. s hs ∙ x.goes hs }
tail_moved ts pos q gs js before past (Err (Unexpected i)) l e s x = record { within = x.within; there = λ hs. s hs ∙ x.there hs }
tail_moved ts pos q gs js before past (Err NoMemory) l e s x = tt

-- ---- no statement

no_stmt : (o : Option Kind) → name_in o ≡ None → is_mark (codes "}") o ≡ false → left stmts o ≡ None
no_stmt None h b = refl
no_stmt (Some (a_name x)) h b = absurd cc
no_stmt (Some (keyword x)) h b = refl
no_stmt (Some (plain n)) h b = refl
no_stmt (Some (literal w n)) h b = refl
no_stmt (Some (mark m)) h b = rw b refl
no_stmt (Some finish) h b = refl

pub stmt_refused : (ts : List Kind) (pos i : ℕ) → pos ≤ length ts → name_in (slice_get ts pos) ≡ None → i ≡ pos → is_mark (codes "}") (slice_get ts pos) ≡ false → Refused (stmts ∷ []) ts pos i
stmt_refused ts pos i w h e b = subst (λ n. Refused (stmts ∷ []) ts pos n) (sym e) (record { within = w; there = λ hs. refused_at stmts hs ts pos (slice_get ts pos) refl (no_stmt (slice_get ts pos) h b) })

no_dotted : (x : List ℕ) (o : Option Kind) → name_in o ≡ None → left (dotted x) o ≡ None
no_dotted x None h = refl
no_dotted x (Some (a_name y)) h = absurd cc
no_dotted x (Some k) h = refl

pub dotted_refused : (ts : List Kind) (pos i : ℕ) (x : List ℕ) → pos ≤ length ts → name_in (slice_get ts pos) ≡ None → i ≡ pos → Refused (dotted x ∷ []) ts pos i
dotted_refused ts pos i x w h e = subst (λ n. Refused (dotted x ∷ []) ts pos n) (sym e) (record { within = w; there = λ hs. refused_at (dotted x) hs ts pos (slice_get ts pos) refl (no_dotted x (slice_get ts pos) h) })

-- ---- the first name

pub name_goes : (ts : List Kind) (pos : ℕ) (x : List ℕ) (next : ℕ) → drop pos ts ≡ a_name x ∷ drop next ts → (hs : Goals) → stuck (stmts ∷ hs) (drop pos ts) ≡ stuck (after_first x ∷ hs) (drop next ts)
name_goes ts pos x next d hs = ap (stuck (stmts ∷ hs)) d

pub if_goes : (ts : List Kind) (pos : ℕ) (x : List ℕ) (next : ℕ) → drop pos ts ≡ a_name x ∷ drop next ts → is_mark (codes "(") (slice_get ts next) ≡ true → same_name (codes "if") x ≡ true
    → (hs : Goals) → stuck (stmts ∷ hs) (drop pos ts) ≡ stuck (if_goals ++ hs) (drop (next + 1) ts)
if_goes ts pos x next d m s hs =
    name_goes ts pos x next d hs
    ∙ ap (λ z. stuck (after_first z ∷ hs) (drop next ts)) (sym (same_text (codes "if") x s))
    ∙ ap (stuck (after_first (codes "if") ∷ hs)) (drop_some ts next (mark (codes "(")) (mark_is (codes "(") (slice_get ts next) m))

pub if_before : (ts : List Kind) (pos : ℕ) (x : List ℕ) (next : ℕ) → drop pos ts ≡ a_name x ∷ drop next ts → is_mark (codes "(") (slice_get ts next) ≡ true → same_name (codes "if") x ≡ true
    → drop pos ts ≡ a_name (codes "if") ∷ mark (codes "(") ∷ drop (next + 1) ts
if_before ts pos x next d m s =
    d ∙ ap (λ z. a_name z ∷ drop next ts) (sym (same_text (codes "if") x s))
    ∙ ap (λ z. a_name (codes "if") ∷ z) (drop_some ts next (mark (codes "(")) (mark_is (codes "(") (slice_get ts next) m))

pub dot_goes : (ts : List Kind) (pos : ℕ) (x : List ℕ) → is_mark (codes ".") (slice_get ts pos) ≡ true → (hs : Goals) → stuck (after_first x ∷ hs) (drop pos ts) ≡ stuck (dotted x ∷ hs) (drop (pos + 1) ts)
dot_goes ts pos x m hs = ap (stuck (after_first x ∷ hs)) (drop_some ts pos (mark (codes ".")) (mark_is (codes ".") (slice_get ts pos) m))

pub dot_before : (ts : List Kind) (pos : ℕ) (x : List ℕ) → is_mark (codes ".") (slice_get ts pos) ≡ true → a_name x ∷ drop pos ts ≡ a_name x ∷ mark (codes ".") ∷ drop (pos + 1) ts
dot_before ts pos x m = ap (λ z. a_name x ∷ z) (drop_some ts pos (mark (codes ".")) (mark_is (codes ".") (slice_get ts pos) m))

pub return_read : (ts : List Kind) (pos : ℕ) (x : List ℕ) (s d : StmtText) → is_mark (codes ";") (slice_get ts pos) ≡ true → same_name (codes "return") x ≡ true → d ≡ s
    → ((ks : List Kind) → stmt_then s ks ≡ a_name (codes "return") ∷ mark (codes ";") ∷ ks) → ReadTail (after_first x ∷ []) (λ ks. a_name x ∷ ks) ts pos d (pos + 1)
return_read ts pos x s d m r e h =
    let k = mark_is (codes ";") (slice_get ts pos) m in
    let l = slice_get_within ts pos (mark (codes ";")) k in
    let same = sym (same_text (codes "return") x r) in
    let t = drop_some ts pos (mark (codes ";")) k in
    subst (λ z. ReadTail (after_first x ∷ []) (λ ks. a_name x ∷ ks) ts pos z (pos + 1)) (sym e) (record {
      after = omega arith;
      within = omega (arith, l);
      are = ap (λ z. a_name z ∷ drop pos ts) same ∙ ap (λ z. a_name (codes "return") ∷ z) t ∙ sym (h (drop (pos + 1) ts));
      goes = λ hs. ap (λ z. stuck (after_first z ∷ hs) (drop pos ts)) same ∙ ap (stuck (after_first (codes "return") ∷ hs)) t;
    })

both_off : (b c : Bool) → (b && c) ≡ false → b ≡ true → c ≡ false
both_off true c h e = h
both_off false c h e = absurd cc

no_first_by : (x m : List ℕ) (b c : Bool) → same_name (codes "(") m ≡ b → same_name (codes ";") m ≡ c → same_name (codes ".") m ≡ false → same_name (codes "=") m ≡ false → (same_name (codes "(") m && same_name (codes "if") x) ≡ false
    → (same_name (codes ";") m && same_name (codes "return") x) ≡ false → takes (after_first x) (mark m) ≡ None
no_first_by x m true c p q d a i r = rw (d, a, p, both_off (same_name (codes "(") m) (same_name (codes "if") x) i p) refl
no_first_by x m false true p q d a i r = rw (d, a, p, q, both_off (same_name (codes ";") m) (same_name (codes "return") x) r q) refl
no_first_by x m false false p q d a i r = rw (d, a, p, q) refl

no_first : (x : List ℕ) (o : Option Kind) → is_mark (codes ".") o ≡ false → is_mark (codes "=") o ≡ false → (is_mark (codes "(") o && same_name (codes "if") x) ≡ false → (is_mark (codes ";") o && same_name (codes "return") x) ≡ false → left (after_first x) o ≡ None
no_first x None d a i r = refl
no_first x (Some (mark m)) d a i r = no_first_by x m (same_name (codes "(") m) (same_name (codes ";") m) refl refl d a i r
no_first x (Some k) d a i r = refl

pub first_refused : (ts : List Kind) (pos : ℕ) (x : List ℕ) → pos ≤ length ts → is_mark (codes ".") (slice_get ts pos) ≡ false → is_mark (codes "=") (slice_get ts pos) ≡ false
    → (is_mark (codes "(") (slice_get ts pos) && same_name (codes "if") x) ≡ false → (is_mark (codes ";") (slice_get ts pos) && same_name (codes "return") x) ≡ false → Refused (after_first x ∷ []) ts pos pos
first_refused ts pos x w d a i r = record { within = w; there = λ hs. refused_at (after_first x) hs ts pos (slice_get ts pos) refl (no_first x (slice_get ts pos) d a i r) }

-- ---- what is set

assigned_same : (ts : List Kind) (pos : ℕ) (w x : List ℕ) (js : Goals) → is_mark (codes "=") (slice_get ts pos) ≡ true → same_name w x ≡ true
    → ((hs : Goals) (ks : List Kind) → stuck (after_first w ∷ hs) (mark (codes "=") ∷ ks) ≡ stuck (js ++ (stmts ∷ hs)) (mark (codes "=") ∷ ks)) → Same ts pos (after_first x ∷ []) js
assigned_same ts pos w x js m s h hs =
    let t = drop_some ts pos (mark (codes "=")) (mark_is (codes "=") (slice_get ts pos) m) in
    ap (λ z. stuck (after_first z ∷ hs) (drop pos ts)) (sym (same_text w x s)) ∙ ap (stuck (after_first w ∷ hs)) t ∙ h hs (drop (pos + 1) ts) ∙ ap (stuck (js ++ (stmts ∷ hs))) (sym t)

pub verdict_same : (ts : List Kind) (pos : ℕ) (x : List ℕ) → is_mark (codes "=") (slice_get ts pos) ≡ true → same_name (codes "verdict") x ≡ true → Same ts pos (after_first x ∷ []) verdict_goals
verdict_same ts pos x m s = assigned_same ts pos (codes "verdict") x verdict_goals m s (λ hs ks. refl)

pub egress_port_same : (ts : List Kind) (pos : ℕ) (x : List ℕ) → is_mark (codes "=") (slice_get ts pos) ≡ true → same_name (codes "egress_port") x ≡ true → Same ts pos (after_first x ∷ []) assignment_goals
egress_port_same ts pos x m s = assigned_same ts pos (codes "egress_port") x assignment_goals m s (λ hs ks. refl)

pub group_same : (ts : List Kind) (pos : ℕ) (x : List ℕ) → is_mark (codes "=") (slice_get ts pos) ≡ true → same_name (codes "group") x ≡ true → Same ts pos (after_first x ∷ []) assignment_goals
group_same ts pos x m s = assigned_same ts pos (codes "group") x assignment_goals m s (λ hs ks. refl)

no_assigned : (x : List ℕ) → same_name (codes "verdict") x ≡ false → same_name (codes "egress_port") x ≡ false → same_name (codes "group") x ≡ false → takes (after_first x) (mark (codes "=")) ≡ None
no_assigned x a b c = rw (a, b, c) refl

pub assigned_refused : (ts : List Kind) (pos : ℕ) (x : List ℕ) → pos ≤ length ts → is_mark (codes "=") (slice_get ts pos) ≡ true → same_name (codes "verdict") x ≡ false → same_name (codes "egress_port") x ≡ false → same_name (codes "group") x ≡ false
    → Refused (after_first x ∷ []) ts pos pos
assigned_refused ts pos x w m a b c = record { within = w; there = λ hs. refused_at (after_first x) hs ts pos (Some (mark (codes "="))) (mark_is (codes "=") (slice_get ts pos) m) (no_assigned x a b c) }

-- ---- after a name and a dot

pub meta_goes : (ts : List Kind) (pos : ℕ) (x y : List ℕ) (next : ℕ) → drop pos ts ≡ a_name y ∷ drop next ts → same_name (codes "m") x ≡ true → (hs : Goals) → stuck (dotted x ∷ hs) (drop pos ts) ≡ stuck (after_meta y ∷ hs) (drop next ts)
meta_goes ts pos x y next d s hs = ap (stuck (dotted x ∷ hs)) d ∙ rw s refl

pub header_goes : (ts : List Kind) (pos : ℕ) (x y : List ℕ) (next : ℕ) → drop pos ts ≡ a_name y ∷ drop next ts → same_name (codes "m") x ≡ false → same_name (codes "h") x ≡ true → (hs : Goals) → stuck (dotted x ∷ hs) (drop pos ts) ≡ stuck (after_header y ∷ hs) (drop next ts)
header_goes ts pos x y next d m s hs = ap (stuck (dotted x ∷ hs)) d ∙ rw (m, s) refl

pub apply_goes : (ts : List Kind) (pos : ℕ) (x y : List ℕ) (next : ℕ) → drop pos ts ≡ a_name y ∷ drop next ts → same_name (codes "m") x ≡ false → same_name (codes "h") x ≡ false → same_name (codes "apply") y ≡ true
    → (hs : Goals) → stuck (dotted x ∷ hs) (drop pos ts) ≡ stuck (call_goals ++ (stmts ∷ hs)) (drop next ts)
apply_goes ts pos x y next d m h a hs = ap (stuck (dotted x ∷ hs)) d ∙ rw (m, h, a) refl

no_apply : (x y : List ℕ) → same_name (codes "m") x ≡ false → same_name (codes "h") x ≡ false → same_name (codes "apply") y ≡ false → takes (dotted x) (a_name y) ≡ None
no_apply x y m h a = rw (m, h, a) refl

pub apply_refused : (ts : List Kind) (pos : ℕ) (x y : List ℕ) (next : ℕ) → pos ≤ length ts → drop pos ts ≡ a_name y ∷ drop next ts → same_name (codes "m") x ≡ false → same_name (codes "h") x ≡ false → same_name (codes "apply") y ≡ false → Refused (dotted x ∷ []) ts pos pos
apply_refused ts pos x y next w d m h a = record { within = w; there = λ hs. ap (stuck (dotted x ∷ hs)) d ∙ rw (no_apply x y m h a) refl ∙ ap (λ z. Some z) (sym d) }

-- a table's application
pub applied_read : (ts ks : List Kind) (pos : ℕ) (x y : List ℕ) (next end : ℕ) (s d : StmtText) → drop pos ts ≡ a_name y ∷ drop next ts → pos < next → same_name (codes "m") x ≡ false → same_name (codes "h") x ≡ false → same_name (codes "apply") y ≡ true
    → Read call_goals (λ (u : Unit {0}) rest. ks ++ rest) ts next tt end → d ≡ s → ((rest : List Kind) → stmt_then s rest ≡ a_name x ∷ mark (codes ".") ∷ a_name (codes "apply") ∷ (ks ++ rest)) → ReadTail (dotted x ∷ []) (λ rest. a_name x ∷ mark (codes ".") ∷ rest) ts pos d end
applied_read ts ks pos x y next end s d are l m h a r e f =
    let same = sym (same_text (codes "apply") y a) in
    let z = r.after in
    subst (λ z. ReadTail (dotted x ∷ []) (λ rest. a_name x ∷ mark (codes ".") ∷ rest) ts pos z end) (sym e) (record {
      after = omega (arith, l, z);
      within = r.within;
      are = ap (λ z. a_name x ∷ mark (codes ".") ∷ z) (are ∙ ap (λ z. a_name z ∷ drop next ts) same ∙ ap (λ z. a_name (codes "apply") ∷ z) r.are) ∙ sym (f (drop end ts));
      goes = λ hs. apply_goes ts pos x y next are m h a hs ∙ r.goes (stmts ∷ hs);
    })

pub applied_refused : (ts : List Kind) (pos : ℕ) (x y : List ℕ) (next i : ℕ) → drop pos ts ≡ a_name y ∷ drop next ts → same_name (codes "m") x ≡ false → same_name (codes "h") x ≡ false → same_name (codes "apply") y ≡ true → Refused call_goals ts next i → Refused (dotted x ∷ []) ts pos i
applied_refused ts pos x y next i d m h a r = record { within = r.within; there = λ hs. apply_goes ts pos x y next d m h a hs ∙ r.there (stmts ∷ hs) }

-- ---- after `m.NAME` and `h.NAME`

-- a call
called_same : (g : Goal) (ts : List Kind) (pos : ℕ) → is_mark (codes "(") (slice_get ts pos) ≡ true → takes g (mark (codes "(")) ≡ Some (the_mark (codes ")") ∷ the_mark (codes ";") ∷ stmts ∷ []) → Same ts pos (g ∷ []) call_goals
called_same g ts pos m t hs =
    let d = drop_some ts pos (mark (codes "(")) (mark_is (codes "(") (slice_get ts pos) m) in
    ap (stuck (g ∷ hs)) d ∙ rw t refl ∙ ap (stuck (call_goals ++ (stmts ∷ hs))) (sym d)

pub meta_called : (ts : List Kind) (pos : ℕ) (y : List ℕ) → is_mark (codes "(") (slice_get ts pos) ≡ true → same_name (codes "apply") y ≡ true → Same ts pos (after_meta y ∷ []) call_goals
meta_called ts pos y m a = called_same (after_meta y) ts pos m (rw a refl)

pub header_called : (ts : List Kind) (pos : ℕ) (y : List ℕ) → is_mark (codes "(") (slice_get ts pos) ≡ true → same_name (codes "apply") y ≡ true → Same ts pos (after_header y ∷ []) call_goals
header_called ts pos y m a = called_same (after_header y) ts pos m (rw a refl)

-- one mark, that begins the other goals too, or none of both
one_mark : (g : Goal) (w : List ℕ) (js : Goals) (o : Option Kind) (ts : List Kind) (pos : ℕ) (hs : Goals) → slice_get ts pos ≡ o → (is_mark w o ≡ true → (ks : List Kind) → stuck (g ∷ hs) (mark w ∷ ks) ≡ stuck (the_mark w ∷ js) (mark w ∷ ks))
    → (is_mark w o ≡ false → left g o ≡ None) → (b : Bool) → is_mark w o ≡ b → left (the_mark w) o ≡ left (the_mark w) o → (is_mark w o ≡ false → left (the_mark w) o ≡ None) → stuck (g ∷ hs) (drop pos ts) ≡ stuck (the_mark w ∷ js) (drop pos ts)
one_mark g w js o ts pos hs e yes_ no_ true b u n =
    let d = drop_some ts pos (mark w) (e ∙ mark_is w o b) in
    ap (stuck (g ∷ hs)) d ∙ yes_ b (drop (pos + 1) ts) ∙ ap (stuck (the_mark w ∷ js)) (sym d)
one_mark g w js o ts pos hs e yes_ no_ false b u n = refused_at g hs ts pos o e (no_ b) ∙ sym (refused_at (the_mark w) js ts pos o e (n b))

no_mark : (w : List ℕ) (o : Option Kind) → is_mark w o ≡ false → left (the_mark w) o ≡ None
no_mark w None h = refl
no_mark w (Some (mark m)) h = rw h refl
no_mark w (Some k) h = refl

no_meta_by : (y m : List ℕ) (b : Bool) → same_name (codes "(") m ≡ b → (same_name (codes "(") m && same_name (codes "apply") y) ≡ false → same_name (codes "=") m ≡ false → takes (after_meta y) (mark m) ≡ None
no_meta_by y m true p c a = rw (p, both_off (same_name (codes "(") m) (same_name (codes "apply") y) c p) refl
no_meta_by y m false p c a = rw (p, a) refl

no_meta : (y : List ℕ) (o : Option Kind) → (is_mark (codes "(") o && same_name (codes "apply") y) ≡ false → is_mark (codes "=") o ≡ false → left (after_meta y) o ≡ None
no_meta y None c a = refl
no_meta y (Some (mark m)) c a = no_meta_by y m (same_name (codes "(") m) refl c a
no_meta y (Some k) c a = refl

pub meta_set : (ts : List Kind) (pos : ℕ) (y : List ℕ) → (is_mark (codes "(") (slice_get ts pos) && same_name (codes "apply") y) ≡ false → Same ts pos (after_meta y ∷ []) assignment_goals
meta_set ts pos y c hs = one_mark (after_meta y) (codes "=") (an_expr to_semicolon ∷ stmts ∷ hs) (slice_get ts pos) ts pos hs refl (λ e ks. refl) (no_meta y (slice_get ts pos) c) (is_mark (codes "=") (slice_get ts pos)) refl refl (no_mark (codes "=") (slice_get ts pos))

no_header_by : (y m : List ℕ) (b : Bool) → same_name (codes "(") m ≡ b → (same_name (codes "(") m && same_name (codes "apply") y) ≡ false → same_name (codes ".") m ≡ false → takes (after_header y) (mark m) ≡ None
no_header_by y m true p c a = rw (p, both_off (same_name (codes "(") m) (same_name (codes "apply") y) c p) refl
no_header_by y m false p c a = rw (p, a) refl

no_header : (y : List ℕ) (o : Option Kind) → (is_mark (codes "(") o && same_name (codes "apply") y) ≡ false → is_mark (codes ".") o ≡ false → left (after_header y) o ≡ None
no_header y None c a = refl
no_header y (Some (mark m)) c a = no_header_by y m (same_name (codes "(") m) refl c a
no_header y (Some k) c a = refl

pub header_set : (ts : List Kind) (pos : ℕ) (y : List ℕ) → (is_mark (codes "(") (slice_get ts pos) && same_name (codes "apply") y) ≡ false → Same ts pos (after_header y ∷ []) setting_goals
header_set ts pos y c hs = one_mark (after_header y) (codes ".") (any_name ∷ the_mark (codes "=") ∷ an_expr to_semicolon ∷ stmts ∷ hs) (slice_get ts pos) ts pos hs refl (λ e ks. refl) (no_header y (slice_get ts pos) c) (is_mark (codes ".") (slice_get ts pos)) refl refl (no_mark (codes ".") (slice_get ts pos))

-- ---- after an `if`

else_word : (ts : List Kind) (q : ℕ) → is_word (codes "else") (slice_get ts q) ≡ true → (hs : Goals) → stuck (stmts_or_else ∷ hs) (drop q ts) ≡ stuck (after_else ∷ hs) (drop (q + 1) ts)
else_word ts q e hs = ap (stuck (stmts_or_else ∷ hs)) (drop_some ts q (a_name (codes "else")) (word_is (codes "else") (slice_get ts q) e))

no_else_by : (m : List ℕ) → same_name (codes ".") m ≡ false → same_name (codes "{") m ≡ false → takes after_else (mark m) ≡ None
no_else_by m d b = rw (b, d) refl

no_else : (o : Option Kind) → is_mark (codes ".") o ≡ false → is_mark (codes "{") o ≡ false → left after_else o ≡ None
no_else None d b = refl
no_else (Some (mark m)) d b = no_else_by m d b
no_else (Some k) d b = refl

brace_goes : (ts : List Kind) (q : ℕ) → is_mark (codes ".") (slice_get ts q) ≡ false → (hs : Goals) → stuck (after_else ∷ hs) (drop q ts) ≡ stuck (braced_goals ++ (stmts ∷ hs)) (drop q ts)
brace_goes ts q d hs = one_mark after_else (codes "{") (stmts ∷ stmts ∷ hs) (slice_get ts q) ts q hs refl (λ e ks. refl) (no_else (slice_get ts q) d) (is_mark (codes "{") (slice_get ts q)) refl refl (no_mark (codes "{") (slice_get ts q))

true_parts : (b c : Bool) → (if b then not c else false) ≡ true → (b ≡ true) × (c ≡ false)
true_parts true true h = absurd cc
true_parts true false h = (refl, refl)
true_parts false c h = absurd cc

pub else_goes : (ts : List Kind) (q : ℕ) → else_at (slice_get ts q) (slice_get ts (q + 1)) ≡ true → (hs : Goals) → stuck (stmts_or_else ∷ hs) (drop q ts) ≡ stuck (braced_goals ++ (stmts ∷ hs)) (drop (q + 1) ts)
else_goes ts q e hs =
    let p = true_parts (is_word (codes "else") (slice_get ts q)) (is_mark (codes ".") (slice_get ts (q + 1))) e in
    else_word ts q p.0 hs ∙ brace_goes ts (q + 1) p.1 hs

pub else_is : (ts : List Kind) (q : ℕ) → else_at (slice_get ts q) (slice_get ts (q + 1)) ≡ true → drop q ts ≡ a_name (codes "else") ∷ drop (q + 1) ts
else_is ts q e =
    let p = true_parts (is_word (codes "else") (slice_get ts q)) (is_mark (codes ".") (slice_get ts (q + 1))) e in
    drop_some ts q (a_name (codes "else")) (word_is (codes "else") (slice_get ts q) p.0)

else_dot : (ts : List Kind) (q : ℕ) → is_word (codes "else") (slice_get ts q) ≡ true → is_mark (codes ".") (slice_get ts (q + 1)) ≡ true → (hs : Goals) → stuck (stmts_or_else ∷ hs) (drop q ts) ≡ stuck (stmts ∷ hs) (drop q ts)
else_dot ts q e d hs =
    let w = drop_some ts q (a_name (codes "else")) (word_is (codes "else") (slice_get ts q) e) in
    let m = drop_some ts (q + 1) (mark (codes ".")) (mark_is (codes ".") (slice_get ts (q + 1)) d) in
    let both = w ∙ ap (λ z. a_name (codes "else") ∷ z) m in
    ap (stuck (stmts_or_else ∷ hs)) both ∙ ap (stuck (stmts ∷ hs)) (sym both)

no_else_word : (o : Option Kind) (ts : List Kind) (q : ℕ) → slice_get ts q ≡ o → is_word (codes "else") o ≡ false → (hs : Goals) → stuck (stmts_or_else ∷ hs) (drop q ts) ≡ stuck (stmts ∷ hs) (drop q ts)
no_else_word None ts q e h hs = let d = drop_none ts q e in ap (stuck (stmts_or_else ∷ hs)) d ∙ ap (stuck (stmts ∷ hs)) (sym d)
no_else_word (Some (a_name x)) ts q e h hs = let d = drop_some ts q (a_name x) e in ap (stuck (stmts_or_else ∷ hs)) d ∙ rw h refl ∙ ap (stuck (stmts ∷ hs)) (sym d)
no_else_word (Some (keyword x)) ts q e h hs = let d = drop_some ts q (keyword x) e in ap (stuck (stmts_or_else ∷ hs)) d ∙ ap (stuck (stmts ∷ hs)) (sym d)
no_else_word (Some (plain n)) ts q e h hs = let d = drop_some ts q (plain n) e in ap (stuck (stmts_or_else ∷ hs)) d ∙ ap (stuck (stmts ∷ hs)) (sym d)
no_else_word (Some (literal w n)) ts q e h hs = let d = drop_some ts q (literal w n) e in ap (stuck (stmts_or_else ∷ hs)) d ∙ ap (stuck (stmts ∷ hs)) (sym d)
no_else_word (Some (mark m)) ts q e h hs = let d = drop_some ts q (mark m) e in ap (stuck (stmts_or_else ∷ hs)) d ∙ ap (stuck (stmts ∷ hs)) (sym d)
no_else_word (Some finish) ts q e h hs = let d = drop_some ts q finish e in ap (stuck (stmts_or_else ∷ hs)) d ∙ ap (stuck (stmts ∷ hs)) (sym d)

false_parts : (b c : Bool) → (if b then not c else false) ≡ false → (b ≡ false) ⊎ ((b ≡ true) × (c ≡ true))
false_parts true true h = inr (refl, refl)
false_parts true false h = absurd cc
false_parts false c h = inl refl

pub goes_on : (ts : List Kind) (q : ℕ) → else_at (slice_get ts q) (slice_get ts (q + 1)) ≡ false → (hs : Goals) → stuck (stmts_or_else ∷ hs) (drop q ts) ≡ stuck (stmts ∷ hs) (drop q ts)
goes_on ts q e hs = elim (false_parts (is_word (codes "else") (slice_get ts q)) (is_mark (codes ".") (slice_get ts (q + 1))) e) [
  | inl h ↦ no_else_word (slice_get ts q) ts q refl h hs
  | inr h ↦ else_dot ts q h.0 h.1 hs
]

-- ---- blocks

appended : (ss : List StmtText) (s : StmtText) (ks : List Kind) → block_then (block_of (ss ++ s ∷ [])) ks ≡ block_then (block_of ss) (stmt_then s ks)
appended [] s ks = refl
appended (x ∷ ss) s ks = ap (stmt_then x) (appended ss s ks)

pub none_yet : (ts : List Kind) (pos : ℕ) → pos ≤ length ts → SoFar ts pos w_done pos
none_yet ts pos w = record { within = w; forward = omega arith; are = refl; goes = λ hs. refl }

pub one_more : (ts : List Kind) (pos next after : ℕ) (xs ys : List WrittenStmt) (x : WrittenStmt) → ys ≡ xs ++ x ∷ [] → SoFar ts pos (block_of (map stmt_of xs)) next → ReadTail (stmts ∷ []) (λ ks. ks) ts next (stmt_of x) after
    → SoFar ts pos (block_of (map stmt_of ys)) after
one_more ts pos next after xs ys x e s r =
    let a = r.after in
    let f = s.forward in
    let mapped : map stmt_of ys ≡ map stmt_of xs ++ stmt_of x ∷ [] = ap (λ z. map stmt_of z) e ∙ map-append stmt_of xs (x ∷ []) in
    subst (λ z. SoFar ts pos (block_of z) after) (sym mapped) (record {
      within = r.within;
      forward = omega (arith, a, f);
      are = s.are ∙ ap (block_then (block_of (map stmt_of xs))) r.are ∙ sym (appended (map stmt_of xs) (stmt_of x) (drop after ts));
      goes = λ hs. s.goes hs ∙ r.goes hs;
    })

pub stopped : (ts : List Kind) (pos next i : ℕ) (b : BlockText) → SoFar ts pos b next → Refused (stmts ∷ []) ts next i → Refused (stmts ∷ []) ts pos i
stopped ts pos next i b s r = record { within = r.within; there = λ hs. s.goes hs ∙ r.there hs }

pub all_read : {A : Type 0} (f : A → List Kind → List Kind) (ts : List Kind) (pos next : ℕ) (x : A) (b : BlockText) → SoFar ts pos b next → is_mark (codes "}") (slice_get ts next) ≡ true → ((ks : List Kind) → f x ks ≡ block_then b (mark (codes "}") ∷ ks))
    → Read (stmts ∷ []) f ts pos x (next + 1)
all_read f ts pos next x b s m h =
    let k = mark_is (codes "}") (slice_get ts next) m in
    let l = slice_get_within ts next (mark (codes "}")) k in
    let g = s.forward in
    let d = drop_some ts next (mark (codes "}")) k in
    record {
      after = omega (arith, g);
      within = omega (arith, l);
      are = s.are ∙ ap (block_then b) d ∙ sym (h (drop (next + 1) ts));
      goes = λ hs. s.goes hs ∙ ap (stuck (stmts ∷ hs)) d;
    }

-- ---- what is passed on

pub dotted_fails : (A : Type 0) (ts : List Kind) (pos : ℕ) (x : List ℕ) (before : List Kind → List Kind) (r : Result (WrittenStmt × ℕ) Stop) (stop : Stop) → r ≡ Err stop → pos ≤ length ts
    → NoName {A = A} pos (slice_get ts pos) (Err stop) → TailAt (dotted x ∷ []) before ts pos r
dotted_fails A ts pos x before r (Unexpected i) e w h = subst (λ z. TailAt (dotted x ∷ []) before ts pos z) (sym e) (dotted_refused ts pos i x w h.0 h.1)
dotted_fails A ts pos x before r NoMemory e w h = subst (λ z. TailAt (dotted x ∷ []) before ts pos z) (sym e) tt

pub stmt_fails : (A : Type 0) (ts : List Kind) (pos : ℕ) (r : Result (WrittenStmt × ℕ) Stop) (stop : Stop) → r ≡ Err stop → pos ≤ length ts → is_mark (codes "}") (slice_get ts pos) ≡ false
    → NoName {A = A} pos (slice_get ts pos) (Err stop) → TailAt (stmts ∷ []) (λ ks. ks) ts pos r
stmt_fails A ts pos r (Unexpected i) e w b h = subst (λ z. TailAt (stmts ∷ []) (λ ks. ks) ts pos z) (sym e) (stmt_refused ts pos i w h.0 h.1 b)
stmt_fails A ts pos r NoMemory e w b h = subst (λ z. TailAt (stmts ∷ []) (λ ks. ks) ts pos z) (sym e) tt

pub else_refused : {A : Type 0} (f : A → List Kind → List Kind) (ts : List Kind) (pos : ℕ) (x : A) (end i : ℕ) → Read guarded_goals f ts pos x end → else_at (slice_get ts end) (slice_get ts (end + 1)) ≡ true
    → Refused braced_goals ts (end + 1) i → Refused if_goals ts pos i
else_refused f ts pos x end i r h b = record { within = b.within; there = λ hs. r.goes (stmts_or_else ∷ hs) ∙ else_goes ts end h hs ∙ b.there (stmts ∷ hs) }

pub if_else_read : (ts : List Kind) (pos : ℕ) (e : WrittenExpr) (a b : Vec WrittenStmt Global) (end last : ℕ) (d : StmtText) → Read guarded_goals guarded_then ts pos (e, a) end → else_at (slice_get ts end) (slice_get ts (end + 1)) ≡ true
    → Read braced_goals braced_then ts (end + 1) b last → d ≡ w_if_else (expr_of e) (body_of a.items) (body_of b.items) → ReadTail if_goals after_if ts pos d last
if_else_read ts pos e a b end last d r h s f =
    let y = r.after in
    let z = s.after in
    subst (λ z. ReadTail if_goals after_if ts pos z last) (sym f) (record {
      after = omega (arith, y, z);
      within = s.within;
      are = ap after_if (r.are ∙ ap (guarded_then (e, a)) (else_is ts end h ∙ ap (λ k. a_name (codes "else") ∷ k) s.are));
      goes = λ hs. r.goes (stmts_or_else ∷ hs) ∙ else_goes ts end h hs ∙ s.goes (stmts ∷ hs);
    })

pub if_read : (ts : List Kind) (pos : ℕ) (e : WrittenExpr) (a : Vec WrittenStmt Global) (end : ℕ) (d : StmtText) → Read guarded_goals guarded_then ts pos (e, a) end → else_at (slice_get ts end) (slice_get ts (end + 1)) ≡ false
    → d ≡ w_if (expr_of e) (body_of a.items) → ReadTail if_goals after_if ts pos d end
if_read ts pos e a end d r h f = subst (λ z. ReadTail if_goals after_if ts pos z end) (sym f) (record {
  after = r.after;
  within = r.within;
  are = ap after_if r.are;
  goes = λ hs. r.goes (stmts_or_else ∷ hs) ∙ goes_on ts end h hs;
})
