-- Keys and tables, as the plain reader takes them.
use Rattle.std.specs.Prelude.{◌≡◌, ℕ, ◌+◌, ◌≤◌, Bool, true, false, List, [], ◌∷◌, ◌++◌, length, drop, slice_get, Option, Some, None, Vec, Result, Ok, Err, if◌then◌else◌, codes, refl}
use Rattle.std.specs.Global.{Global}
use Rattle.std.proofs.Common.{sym, ◌∙◌, ap, subst, arith}
use Rattle.std.proofs.lemmas.List.{append_assoc}
use Rattle.std.proofs.lemmas.Option.{slice_get_within}
use Rattle.cocoon_num.specs.Names.{same_name}
use Rattle.cocoon_num.specs.Tokens.{Kind, a_name, keyword, plain, literal, mark, finish}
use Rattle.p4_texts.specs.Machine.{Goal, Goals, Leaves, by_text, first_key, first_match, keys, stuck, tables, takes, the_word, way}
use Rattle.p4_texts.specs.Written.{each_then, key_then, keys_then, table_then}
use Rattle.p4_texts.specs.TreeOf.{keys_of, table_of}
use Rattle.p4_texts.specs.declared.written.WrittenTable.{WrittenTable}
use Rattle.cocoon_num.specs.declared.bits.Bits.{Bits}
use Rattle.p4_parse.specs.Fields.{action_goals, action_tokens, actions_goals, actions_tokens, default_goals, default_tokens, result_goals, result_tokens, table_goals, table_tokens}
use Rattle.p4_parse.specs.Onward.{Onward}
use Rattle.p4_parse.specs.Phrases.{Phrase, Read, Refused, is_mark, is_word}
use Rattle.p4_parse.specs.Tables.{after_kind, declaration_goals, declaration_tokens, first_key_goals, key_goals, keys_tokens, kind_tokens, tables_tokens}
use Rattle.parsing.specs.declared.stop.Stop.{Stop}
use Rattle.parsing.specs.declared.stop.Stop.TheVariants.{Unexpected, NoMemory}
use Rattle.p4_parse.proofs.Sequences.{before, each_map, one_more, onward, refused_before, stopped}
use Rattle.p4_parse.proofs.Tokens.{drop_none, drop_some, left, mark_is, one_refused, taken_at, word_is}

-- ---- one token

pub one_onward : {A : Type 0} (g : Goal) (more : Goals) (f : A → List Kind → List Kind) (ts : List Kind) (pos : ℕ) (k : Kind) (x : A) → slice_get ts pos ≡ Some k → takes g k ≡ Some more → ((ks : List Kind) → f x ks ≡ k ∷ ks)
    → Onward (g ∷ []) more f ts pos x (pos + 1)
one_onward g more f ts pos k x e t h =
    let l = slice_get_within ts pos k e in
    record {
      forward = omega arith;
      within = omega (arith, l);
      are = drop_some ts pos k e ∙ sym (h (drop (pos + 1) ts));
      goes = λ hs. taken_at g hs more ts pos k e t;
    }

pub exact_read : (ts : List Kind) (pos : ℕ) → is_word (codes "exact") (slice_get ts pos) ≡ true → Onward (first_match ∷ []) (after_kind true) kind_tokens ts pos true (pos + 1)
exact_read ts pos h = one_onward first_match (after_kind true) kind_tokens ts pos (a_name (codes "exact")) true (word_is (codes "exact") (slice_get ts pos) h) refl (λ ks. refl)

pub ternary_read : (ts : List Kind) (pos : ℕ) → is_word (codes "ternary") (slice_get ts pos) ≡ true → Onward (first_match ∷ []) (after_kind false) kind_tokens ts pos false (pos + 1)
ternary_read ts pos h = one_onward first_match (after_kind false) kind_tokens ts pos (a_name (codes "ternary")) false (word_is (codes "ternary") (slice_get ts pos) h) refl (λ ks. refl)

no_kind : (o : Option Kind) → is_word (codes "exact") o ≡ false → is_word (codes "ternary") o ≡ false → left first_match o ≡ None
no_kind None d e = refl
no_kind (Some (a_name x)) d e = rw (d, e) refl
no_kind (Some k) d e = refl

pub no_kind_read : (ts : List Kind) (pos : ℕ) → pos ≤ length ts → is_word (codes "exact") (slice_get ts pos) ≡ false → is_word (codes "ternary") (slice_get ts pos) ≡ false → Refused (first_match ∷ []) ts pos pos
no_kind_read ts pos w d e = one_refused first_match ts pos w (no_kind (slice_get ts pos) d e)

-- ---- the same by another goal

abbrev pub with_more : Leaves → Goals → Leaves
with_more None more = None
with_more (Some js) more = Some (js ++ more)

-- where a goal takes tokens as another does, with more to come
pub alike : (g h : Goal) (more hs : Goals) (o : Option Kind) (ts : List Kind) (pos : ℕ) → slice_get ts pos ≡ o → ((k : Kind) → o ≡ Some k → takes g k ≡ with_more (takes h k) more) → stuck (g ∷ hs) (drop pos ts) ≡ stuck (h ∷ (more ++ hs)) (drop pos ts)
alike g h more hs None ts pos e t = let d = drop_none ts pos e in ap (stuck (g ∷ hs)) d ∙ ap (stuck (h ∷ (more ++ hs))) (sym d)
alike g h more hs (Some k) ts pos e t = let d = drop_some ts pos k e in ap (stuck (g ∷ hs)) d ∙ by (takes h k) refl ∙ ap (stuck (h ∷ (more ++ hs))) (sym d)
  where
    by : (l : Leaves) → takes h k ≡ l → stuck (g ∷ hs) (k ∷ drop (pos + 1) ts) ≡ stuck (h ∷ (more ++ hs)) (k ∷ drop (pos + 1) ts)
    by None x = rw (t k refl, x) refl
    by (Some js) x = rw (t k refl, x) (ap (λ gs. stuck gs (drop (pos + 1) ts)) (append_assoc js more hs))

pub by_one : (b : Bool) (w x : List ℕ) (leaves : Goals) → same_name w x ≡ b → by_text (way w leaves ∷ []) x ≡ with_more (if b then Some [] else None) leaves
by_one true w x leaves e = rw e refl
by_one false w x leaves e = rw e refl

one_way : (w x : List ℕ) (leaves : Goals) → by_text (way w leaves ∷ []) x ≡ with_more (takes (the_word w) (a_name x)) leaves
one_way w x leaves = by_one (same_name w x) w x leaves refl

-- ---- keys

after_m : Bool → Goals
after_m b = drop 1 (key_goals b) ++ (keys b ∷ [])

key_alike : (b : Bool) (o : Option Kind) → is_mark (codes "}") o ≡ false → (k : Kind) → o ≡ Some k → takes (keys b) k ≡ with_more (takes (the_word (codes "m")) k) (drop 1 (key_goals b) ++ (keys b ∷ []))
key_alike b o h (a_name x) e = one_way (codes "m") x (drop 1 (key_goals b) ++ (keys b ∷ []))
key_alike b o h (mark x) e = let n : is_mark (codes "}") (Some (mark x)) ≡ false = ap (is_mark (codes "}")) (sym e) ∙ h in rw n refl
key_alike b o h (keyword x) e = refl
key_alike b o h (plain n) e = refl
key_alike b o h (literal w n) e = refl
key_alike b o h finish e = refl

first_alike : (o : Option Kind) → is_mark (codes "}") o ≡ false → (k : Kind) → o ≡ Some k → takes first_key k ≡ with_more (takes (the_word (codes "m")) k) (drop 1 first_key_goals)
first_alike o h (a_name x) e = one_way (codes "m") x (drop 1 first_key_goals)
first_alike o h (mark x) e = let n : is_mark (codes "}") (Some (mark x)) ≡ false = ap (is_mark (codes "}")) (sym e) ∙ h in rw n refl
first_alike o h (keyword x) e = refl
first_alike o h (plain n) e = refl
first_alike o h (literal w n) e = refl
first_alike o h finish e = refl

key_at : (b : Bool) (ts : List Kind) (pos : ℕ) → is_mark (codes "}") (slice_get ts pos) ≡ false → (hs : Goals) → stuck (keys b ∷ hs) (drop pos ts) ≡ stuck (key_goals b ++ (keys b ∷ hs)) (drop pos ts)
key_at b ts pos h hs = alike (keys b) (the_word (codes "m")) (drop 1 (key_goals b) ++ (keys b ∷ [])) hs (slice_get ts pos) ts pos refl (key_alike b (slice_get ts pos) h)

abbrev each_key : Bool → List (List ℕ) → List Kind → List Kind
each_key b xs ks = each_then (key_then b) xs ks

abbrev pub KeysSoFar : Bool → List Kind → ℕ → List (List ℕ) → ℕ → Type 0
KeysSoFar b ts pos xs next = Onward first_key_goals (keys b ∷ []) (each_then (key_then b)) ts pos xs next

pub one_key : (b : Bool) (ts : List Kind) (pos : ℕ) (x : List ℕ) (xs ys : List (List ℕ)) (next : ℕ) → Onward first_key_goals (keys b ∷ []) (λ (p : List ℕ × Bool) ks. key_then p.1 p.0 ks) ts pos (x, b) next → xs ≡ [] → ys ≡ xs ++ x ∷ [] → KeysSoFar b ts pos ys next
one_key b ts pos x xs ys next a d e =
    let one : ys ≡ x ∷ [] = e ∙ ap (λ z. z ++ x ∷ []) d in
    subst (λ zs. KeysSoFar b ts pos zs next) (sym one) (record { forward = a.forward; within = a.within; are = a.are; goes = a.goes })

pub one_key_more : (b : Bool) (ts : List Kind) (pos next after : ℕ) (xs ys : List (List ℕ)) (x : List ℕ) → KeysSoFar b ts pos xs next → is_mark (codes "}") (slice_get ts next) ≡ false → Read (key_goals b) (key_then b) ts next x after → ys ≡ xs ++ x ∷ [] → KeysSoFar b ts pos ys after
one_key_more b ts pos next after xs ys x s m r e =
    let a = r.after in
    let step : Onward (keys b ∷ []) (keys b ∷ []) (key_then b) ts next x after = record { forward = omega (arith, a); within = r.within; are = r.are; goes = λ hs. key_at b ts next m hs ∙ r.goes (keys b ∷ hs) } in
    one_more s step e

pub key_stopped : (b : Bool) (ts : List Kind) (pos next i : ℕ) (xs : List (List ℕ)) → KeysSoFar b ts pos xs next → is_mark (codes "}") (slice_get ts next) ≡ false → Refused (key_goals b) ts next i → Refused first_key_goals ts pos i
key_stopped b ts pos next i xs s m r = record { within = r.within; there = λ hs. s.goes hs ∙ key_at b ts next m hs ∙ r.there (keys b ∷ hs) }

keys_are : (b : Bool) (xs : List (List ℕ)) (ks : List Kind) → keys_then (keys_of b xs) ks ≡ each_then (key_then b) xs ks
keys_are b [] ks = refl
keys_are b (x ∷ xs) ks = refl

pub all_keys : (b : Bool) (ts : List Kind) (pos next : ℕ) (v : Vec (List ℕ) Global) → KeysSoFar b ts pos v.items next → is_mark (codes "}") (slice_get ts next) ≡ true → Read first_key_goals keys_tokens ts pos (b, v) (next + 1)
all_keys b ts pos next v s m =
    let k = mark_is (codes "}") (slice_get ts next) m in
    let l = slice_get_within ts next (mark (codes "}")) k in
    let f = s.forward in
    record {
      after = omega (arith, f);
      within = omega (arith, l);
      are = s.are ∙ ap (each_then (key_then b) v.items) (drop_some ts next (mark (codes "}")) k) ∙ sym (keys_are b v.items (mark (codes "}") ∷ drop (next + 1) ts));
      goes = λ hs. s.goes hs ∙ taken_at (keys b) hs [] ts next (mark (codes "}")) k refl;
    }

pub no_keys_read : (ts : List Kind) (pos : ℕ) (v : Vec (List ℕ) Global) → v.items ≡ [] → is_mark (codes "}") (slice_get ts pos) ≡ true → Read (first_key ∷ []) keys_tokens ts pos (false, v) (pos + 1)
no_keys_read ts pos v e m =
    let k = mark_is (codes "}") (slice_get ts pos) m in
    let l = slice_get_within ts pos (mark (codes "}")) k in
    record {
      after = omega arith;
      within = omega (arith, l);
      are = drop_some ts pos (mark (codes "}")) k ∙ ap (λ xs. keys_then (keys_of false xs) (mark (codes "}") ∷ drop (pos + 1) ts)) (sym e);
      goes = λ hs. taken_at first_key hs [] ts pos (mark (codes "}")) k refl;
    }

-- the first key is one of some
pub as_first : (ts : List Kind) (pos : ℕ) (r : Result ((Bool × Vec (List ℕ) Global) × ℕ) Stop) → is_mark (codes "}") (slice_get ts pos) ≡ false → Phrase first_key_goals keys_tokens ts pos r → Phrase (first_key ∷ []) keys_tokens ts pos r
as_first ts pos (Ok found) m x = record { after = x.after; within = x.within; are = x.are; goes = λ hs. alike first_key (the_word (codes "m")) (drop 1 first_key_goals) hs (slice_get ts pos) ts pos refl (first_alike (slice_get ts pos) m) ∙ x.goes hs }
as_first ts pos (Err (Unexpected i)) m x = record { within = x.within; there = λ hs. alike first_key (the_word (codes "m")) (drop 1 first_key_goals) hs (slice_get ts pos) ts pos refl (first_alike (slice_get ts pos) m) ∙ x.there hs }
as_first ts pos (Err NoMemory) m x = tt

-- ---- tables

abbrev after_action : Goals
after_action = drop 1 declaration_goals ++ (tables ∷ [])

action_by : (b c : Bool) (x : List ℕ) → same_name (codes "action") x ≡ b → same_name (codes "apply") x ≡ false → takes tables (a_name x) ≡ with_more (takes (the_word (codes "action")) (a_name x)) after_action
action_by true c x e f = rw e refl
action_by false c x e f = rw (e, f) refl

table_alike : (o : Option Kind) → is_word (codes "apply") o ≡ false → (k : Kind) → o ≡ Some k → takes tables k ≡ with_more (takes (the_word (codes "action")) k) after_action
table_alike o h (a_name x) e = action_by (same_name (codes "action") x) true x refl (ap (is_word (codes "apply")) (sym e) ∙ h)
table_alike o h (mark x) e = refl
table_alike o h (keyword x) e = refl
table_alike o h (plain n) e = refl
table_alike o h (literal w n) e = refl
table_alike o h finish e = refl

table_at : (ts : List Kind) (pos : ℕ) → is_word (codes "apply") (slice_get ts pos) ≡ false → (hs : Goals) → stuck (tables ∷ hs) (drop pos ts) ≡ stuck (declaration_goals ++ (tables ∷ hs)) (drop pos ts)
table_at ts pos h hs = alike tables (the_word (codes "action")) after_action hs (slice_get ts pos) ts pos refl (table_alike (slice_get ts pos) h)

abbrev pub TablesSoFar : List Kind → ℕ → List WrittenTable → ℕ → Type 0
TablesSoFar ts pos xs next = Onward (tables ∷ []) (tables ∷ []) (each_then declaration_tokens) ts pos xs next

pub one_table_more : (ts : List Kind) (pos next after : ℕ) (xs ys : List WrittenTable) (x : WrittenTable) → TablesSoFar ts pos xs next → is_word (codes "apply") (slice_get ts next) ≡ false → Read declaration_goals declaration_tokens ts next x after → ys ≡ xs ++ x ∷ [] → TablesSoFar ts pos ys after
one_table_more ts pos next after xs ys x s m r e =
    let a = r.after in
    let step : Onward (tables ∷ []) (tables ∷ []) declaration_tokens ts next x after = record { forward = omega (arith, a); within = r.within; are = r.are; goes = λ hs. table_at ts next m hs ∙ r.goes (tables ∷ hs) } in
    one_more s step e

pub table_stopped : (ts : List Kind) (pos next i : ℕ) (xs : List WrittenTable) → TablesSoFar ts pos xs next → is_word (codes "apply") (slice_get ts next) ≡ false → Refused declaration_goals ts next i → Refused (tables ∷ []) ts pos i
table_stopped ts pos next i xs s m r = record { within = r.within; there = λ hs. s.goes hs ∙ table_at ts next m hs ∙ r.there (tables ∷ hs) }

pub all_tables : (ts : List Kind) (pos next : ℕ) (v : Vec WrittenTable Global) → TablesSoFar ts pos v.items next → is_word (codes "apply") (slice_get ts next) ≡ true → Read (tables ∷ []) tables_tokens ts pos v (next + 1)
all_tables ts pos next v s m =
    let k = word_is (codes "apply") (slice_get ts next) m in
    let l = slice_get_within ts next (a_name (codes "apply")) k in
    let f = s.forward in
    record {
      after = omega (arith, f);
      within = omega (arith, l);
      are = s.are ∙ ap (each_then declaration_tokens v.items) (drop_some ts next (a_name (codes "apply")) k) ∙ each_map table_of table_then v.items (a_name (codes "apply") ∷ drop (next + 1) ts);
      goes = λ hs. s.goes hs ∙ taken_at tables hs [] ts next (a_name (codes "apply")) k refl;
    }

-- ---- an action and its table

abbrev after_the_action : Goals
after_the_action = result_goals ++ (table_goals ++ (first_key ∷ actions_goals ++ default_goals))

abbrev after_the_result : Goals
after_the_result = table_goals ++ (first_key ∷ actions_goals ++ default_goals)

abbrev after_the_table : Goals
after_the_table = first_key ∷ actions_goals ++ default_goals

abbrev after_the_keys : Goals
after_the_keys = actions_goals ++ default_goals

pub to_result : {ts : List Kind} {p q i : ℕ} {a : List ℕ × ℕ} → Read action_goals action_tokens ts p a q → Refused result_goals ts q i → Refused declaration_goals ts p i
to_result a s = stopped (before after_the_action (onward a)) (refused_before after_the_result s)

pub to_actions : {ts : List Kind} {p q r s t i : ℕ} {a : List ℕ × ℕ} {x y : List ℕ} {k : Bool × Vec (List ℕ) Global} → Read action_goals action_tokens ts p a q → Read result_goals result_tokens ts q x r → Read table_goals table_tokens ts r y s
    → Read (first_key ∷ []) keys_tokens ts s k t → Refused actions_goals ts t i → Refused declaration_goals ts p i
to_actions a x y k e = stopped (before after_the_action (onward a)) (stopped (before after_the_result (onward x)) (stopped (before after_the_table (onward y)) (stopped (before after_the_keys (onward k)) (refused_before default_goals e))))

pub declared : {ts : List Kind} {p q r s t u v : ℕ} {a : List ℕ × ℕ} {x y z : List ℕ} {k : Bool × Vec (List ℕ) Global} {d : List ℕ × Bits} (w : WrittenTable) → Read action_goals action_tokens ts p a q → Read result_goals result_tokens ts q x r
    → Read table_goals table_tokens ts r y s → Read (first_key ∷ []) keys_tokens ts s k t → Read actions_goals actions_tokens ts t z u → Read default_goals default_tokens ts u d v
    → ((ks : List Kind) → declaration_tokens w ks ≡ action_tokens a (result_tokens x (table_tokens y (keys_tokens k (actions_tokens z (default_tokens d ks)))))) → Read declaration_goals declaration_tokens ts p w v
declared {ts = ts} {v = v} {a = a} {x = x} {y = y} {z = z} {k = k} w ra rx ry rk rz rd e =
    let f = ra.after in
    let g = rx.after in
    let h = ry.after in
    let i = rk.after in
    let j = rz.after in
    let l = rd.after in
    record {
      after = omega (arith, f, g, h, i, j, l);
      within = rd.within;
      are = ra.are ∙ ap (action_tokens a) (rx.are ∙ ap (result_tokens x) (ry.are ∙ ap (table_tokens y) (rk.are ∙ ap (keys_tokens k) (rz.are ∙ ap (actions_tokens z) rd.are)))) ∙ sym (e (drop v ts));
      goes = λ hs. ra.goes (after_the_action ++ hs) ∙ rx.goes (after_the_result ++ hs) ∙ ry.goes (after_the_table ++ hs) ∙ rk.goes (after_the_keys ++ hs) ∙ rz.goes (default_goals ++ hs) ∙ rd.goes hs;
    }
