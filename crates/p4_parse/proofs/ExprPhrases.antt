-- Expressions, as the plain reader takes them.
use Rattle.std.specs.Prelude.{◌≡◌, ℕ, ◌+◌, ◌≤◌, Bool, true, false, List, [], ◌∷◌, ◌++◌, length, drop, slice_get, Option, Some, None, Result, Ok, Err, IfOk, codes, refl, if◌then◌else◌}
use Rattle.std.proofs.Common.{sym, ◌∙◌, ap, subst, arith}
use Rattle.std.proofs.lemmas.Option.{slice_get_within}
use Rattle.cocoon_num.specs.Names.{same_name}
use Rattle.cocoon_num.specs.Values.{UnaryOp}
use Rattle.cocoon_num.specs.Tokens.{Kind, a_name, keyword, plain, literal, mark, finish}
use Rattle.p4_ir.specs.P4Text.{binary_mark, unary_mark}
use Rattle.p4_ir.specs.Program.{binary_of}
use Rattle.p4_ir.specs.declared.program.P4Binary.{P4Binary}
use Rattle.p4_texts.specs.Machine.{Follow, to_close, to_operator, to_colon, Goals, Way, way, by_text, an_expr, after_expr, opened, the_mark, any_name, takes, follow_ways, stuck}
use Rattle.p4_texts.specs.Written.{ExprText, w_lit, w_meta, w_field, w_unary, w_binary, w_pick, expr_then}
use Rattle.p4_texts.proofs.Complete.{passes, op_pass}
use Rattle.p4_texts.specs.TreeOf.{expr_of}
use Rattle.p4_parse.specs.Phrases.{Read, Refused, Phrase, ReadExpr, RefusedExpr, ExprAt, ReadOpened, OpenedAt, Literal, Sign, Sides, among, signs, operator_at, mark_in, is_mark, is_word, literal_in, range_goals, dotted_goals, dotted_then, path_goals, path_then, sides_goals, sides_then, sides_of, with_mark}
use Rattle.parsing.specs.Joins.{Makes}
use Rattle.p4_texts.specs.declared.written.WrittenExpr.{WrittenExpr}
use Rattle.parsing.specs.declared.stop.Stop.{Stop}
use Rattle.parsing.specs.declared.stop.Stop.TheVariants.{Unexpected, NoMemory}
use Rattle.p4_parse.proofs.Tokens.{drop_some, drop_none, left, refused_at, taken_at, mark_is, word_is, literal_is, same_text}

-- ---- from an expression to what follows

pub alone : (ts : List Kind) (pos : ℕ) (e : ExprText) (next : ℕ) → ReadExpr ts pos e next → (f : Follow) (hs : Goals) → stuck (an_expr f ∷ hs) (drop pos ts) ≡ stuck (after_expr f ∷ hs) (drop next ts)
alone ts pos e next r f hs = ap (stuck (an_expr f ∷ hs)) r.are ∙ (passes e).alone f hs (drop next ts)

first : (ts : List Kind) (pos : ℕ) (e : ExprText) (next : ℕ) → ReadExpr ts pos e next → (hs : Goals) → stuck (opened ∷ hs) (drop pos ts) ≡ stuck (after_expr to_operator ∷ hs) (drop next ts)
first ts pos e next r hs = ap (stuck (opened ∷ hs)) r.are ∙ (passes e).first hs (drop next ts)

-- ---- slices

slice_goes : (ts : List Kind) (next : ℕ) → is_mark (codes "[") (slice_get ts next) ≡ true → (f : Follow) (hs : Goals) → stuck (after_expr f ∷ hs) (drop next ts) ≡ stuck (range_goals ++ (after_expr f ∷ hs)) (drop next ts)
slice_goes ts next m f hs =
    let d = drop_some ts next (mark (codes "[")) (mark_is (codes "[") (slice_get ts next) m) in
    ap (stuck (after_expr f ∷ hs)) d ∙ ap (stuck (range_goals ++ (after_expr f ∷ hs))) (sym d)

pub slice_refused : (ts : List Kind) (pos : ℕ) (e : ExprText) (next i : ℕ) → ReadExpr ts pos e next → is_mark (codes "[") (slice_get ts next) ≡ true → Refused range_goals ts next i → RefusedExpr ts pos i
slice_refused ts pos e next i r m x = record { within = x.within; there = λ f hs. alone ts pos e next r f hs ∙ slice_goes ts next m f hs ∙ x.there (after_expr f ∷ hs) }

-- ---- what an expression begins with

pub literal_read : (ts : List Kind) (pos : ℕ) (l : Literal) → literal_in (slice_get ts pos) ≡ Some l → ReadExpr ts pos (w_lit l.width l.n) (pos + 1)
literal_read ts pos l e =
    let k = literal_is (slice_get ts pos) l e in
    let w = slice_get_within ts pos (literal l.width l.n) k in
    record { after = omega arith; within = omega (arith, w); are = drop_some ts pos (literal l.width l.n) k }

pub leaf_read : (ts : List Kind) (pos : ℕ) (w : List ℕ) (e : ExprText) → is_word w (slice_get ts pos) ≡ true → ((ks : List Kind) → expr_then e ks ≡ a_name w ∷ ks) → ReadExpr ts pos e (pos + 1)
leaf_read ts pos w e m h =
    let k = word_is w (slice_get ts pos) m in
    let l = slice_get_within ts pos (a_name w) k in
    record { after = omega arith; within = omega (arith, l); are = drop_some ts pos (a_name w) k ∙ sym (h (drop (pos + 1) ts)) }

pub meta_read : (ts : List Kind) (pos : ℕ) (x : List ℕ) (next : ℕ) → is_word (codes "m") (slice_get ts pos) ≡ true → Read dotted_goals dotted_then ts (pos + 1) x next → ReadExpr ts pos (w_meta x) next
meta_read ts pos x next m r =
    let k = word_is (codes "m") (slice_get ts pos) m in
    let a = r.after in
    record { after = omega (arith, a); within = r.within; are = drop_some ts pos (a_name (codes "m")) k ∙ ap (λ z. a_name (codes "m") ∷ z) r.are }

pub meta_refused : (ts : List Kind) (pos i : ℕ) → is_word (codes "m") (slice_get ts pos) ≡ true → Refused dotted_goals ts (pos + 1) i → RefusedExpr ts pos i
meta_refused ts pos i m r =
    let k = word_is (codes "m") (slice_get ts pos) m in
    record { within = r.within; there = λ f hs. taken_at (an_expr f) hs (the_mark (codes ".") ∷ any_name ∷ after_expr f ∷ []) ts pos (a_name (codes "m")) k refl ∙ r.there (after_expr f ∷ hs) }

pub field_read : (ts : List Kind) (pos : ℕ) (x y : List ℕ) (next : ℕ) → is_word (codes "h") (slice_get ts pos) ≡ true → Read path_goals path_then ts (pos + 1) (x, y) next → ReadExpr ts pos (w_field x y) next
field_read ts pos x y next m r =
    let k = word_is (codes "h") (slice_get ts pos) m in
    let a = r.after in
    record { after = omega (arith, a); within = r.within; are = drop_some ts pos (a_name (codes "h")) k ∙ ap (λ z. a_name (codes "h") ∷ z) r.are }

pub field_refused : (ts : List Kind) (pos i : ℕ) → is_word (codes "h") (slice_get ts pos) ≡ true → Refused path_goals ts (pos + 1) i → RefusedExpr ts pos i
field_refused ts pos i m r =
    let k = word_is (codes "h") (slice_get ts pos) m in
    record { within = r.within; there = λ f hs. taken_at (an_expr f) hs (the_mark (codes ".") ∷ any_name ∷ the_mark (codes ".") ∷ any_name ∷ after_expr f ∷ []) ts pos (a_name (codes "h")) k refl ∙ r.there (after_expr f ∷ hs) }

-- no expression begins so
none_left : (f : Follow) (o : Option Kind) → literal_in o ≡ None → is_mark (codes "(") o ≡ false → is_word (codes "true") o ≡ false → is_word (codes "false") o ≡ false → is_word (codes "port") o ≡ false
    → is_word (codes "rid") o ≡ false → is_word (codes "m") o ≡ false → is_word (codes "h") o ≡ false → left (an_expr f) o ≡ None
none_left f None l b t u p r m h = refl
none_left f (Some (a_name x)) l b t u p r m h = rw (t, u, p, r, m, h) refl
none_left f (Some (keyword x)) l b t u p r m h = refl
none_left f (Some (plain n)) l b t u p r m h = refl
none_left f (Some (literal w n)) l b t u p r m h = absurd cc
none_left f (Some (mark x)) l b t u p r m h = rw b refl
none_left f (Some finish) l b t u p r m h = refl

pub none_read : (ts : List Kind) (pos : ℕ) → pos ≤ length ts → literal_in (slice_get ts pos) ≡ None → is_mark (codes "(") (slice_get ts pos) ≡ false → is_word (codes "true") (slice_get ts pos) ≡ false → is_word (codes "false") (slice_get ts pos) ≡ false
    → is_word (codes "port") (slice_get ts pos) ≡ false → is_word (codes "rid") (slice_get ts pos) ≡ false → is_word (codes "m") (slice_get ts pos) ≡ false → is_word (codes "h") (slice_get ts pos) ≡ false → RefusedExpr ts pos pos
none_read ts pos w l b t u p r m h = record { within = w; there = λ f hs. refused_at (an_expr f) hs ts pos (slice_get ts pos) refl (none_left f (slice_get ts pos) l b t u p r m h) }

-- a bracket, and what stands in it
pub bracket_at : (ts : List Kind) (pos : ℕ) (r : Result (WrittenExpr × ℕ) Stop) → is_mark (codes "(") (slice_get ts pos) ≡ true → OpenedAt ts (pos + 1) r → ExprAt ts pos r
bracket_at ts pos (Ok found) m x =
    let k = mark_is (codes "(") (slice_get ts pos) m in
    let a = x.after in
    record { after = omega (arith, a); within = x.within; are = drop_some ts pos (mark (codes "(")) k ∙ x.are }
bracket_at ts pos (Err (Unexpected i)) m x =
    let k = mark_is (codes "(") (slice_get ts pos) m in
    record { within = x.within; there = λ f hs. taken_at (an_expr f) hs (opened ∷ after_expr f ∷ []) ts pos (mark (codes "(")) k refl ∙ x.there (after_expr f ∷ hs) }
bracket_at ts pos (Err NoMemory) m x = tt

-- ---- an expression and the mark after it

ends_left : (f : Follow) (m : List ℕ) (o : Option Kind) → follow_ways f ≡ way m [] ∷ [] → is_mark (codes "[") o ≡ false → is_mark m o ≡ false → left (after_expr f) o ≡ None
ends_left f m None e b c = refl
ends_left f m (Some (mark x)) e b c = rw (b, e, c) refl
ends_left f m (Some k) e b c = refl

ends_takes : (f : Follow) (m : List ℕ) → follow_ways f ≡ way m [] ∷ [] → same_name (codes "[") m ≡ false → same_name m m ≡ true → takes (after_expr f) (mark m) ≡ Some []
ends_takes f m e b c = rw (b, e, c) refl

abbrev ended : List ℕ → WrittenExpr → List Kind → List Kind
ended m e ks = expr_then (expr_of e) (mark m ∷ ks)

abbrev Ended : Follow → List ℕ → List Kind → ℕ → Result (WrittenExpr × ℕ) Stop → Type 0
Ended f m ts pos r = Phrase (an_expr f ∷ []) (ended m) ts pos r

ended_by : (f : Follow) (m : List ℕ) (ts : List Kind) (pos : ℕ) (e : WrittenExpr) (next : ℕ) (b : Bool) → is_mark m (slice_get ts next) ≡ b → follow_ways f ≡ way m [] ∷ [] → same_name (codes "[") m ≡ false → same_name m m ≡ true
    → ReadExpr ts pos (expr_of e) next → is_mark (codes "[") (slice_get ts next) ≡ false → Ended f m ts pos (if b then Ok (e, next + 1) else Err (Unexpected next))
ended_by f m ts pos e next true k w s t r o =
    let j = mark_is m (slice_get ts next) k in
    let l = slice_get_within ts next (mark m) j in
    let a = r.after in
    record {
      after = omega (arith, a);
      within = omega (arith, l);
      are = r.are ∙ ap (expr_then (expr_of e)) (drop_some ts next (mark m) j);
      goes = λ hs. alone ts pos (expr_of e) next r f hs ∙ taken_at (after_expr f) hs [] ts next (mark m) j (ends_takes f m w s t);
    }
ended_by f m ts pos e next false k w s t r o = record {
  within = r.within;
  there = λ hs. alone ts pos (expr_of e) next r f hs ∙ refused_at (after_expr f) hs ts next (slice_get ts next) refl (ends_left f m (slice_get ts next) w o k);
}

pub expr_ended : (f : Follow) (m : List ℕ) (ts : List Kind) (pos : ℕ) (r made : Result (WrittenExpr × ℕ) Stop) → follow_ways f ≡ way m [] ∷ [] → same_name (codes "[") m ≡ false → same_name m m ≡ true
    → ExprAt ts pos r → IfOk r (λ x. is_mark (codes "[") (slice_get ts x.1) ≡ false) → made ≡ with_mark ts m r → Phrase (an_expr f ∷ []) (λ e ks. expr_then (expr_of e) (mark m ∷ ks)) ts pos made
expr_ended f m ts pos (Ok found) made w s t x o e = subst (λ z. Ended f m ts pos z) (sym e) (ended_by f m ts pos found.0 found.1 (is_mark m (slice_get ts found.1)) refl w s t x o)
expr_ended f m ts pos (Err (Unexpected i)) made w s t x o e = subst (λ z. Ended f m ts pos z) (sym e) (record { within = x.within; there = λ hs. x.there f hs })
expr_ended f m ts pos (Err NoMemory) made w s t x o e = subst (λ z. Ended f m ts pos z) (sym e) tt

-- ---- what stands in brackets

opened_ok : (ts : List Kind) (pos : ℕ) (e : ExprText) (next : ℕ) (made : WrittenExpr × ℕ) → ReadOpened ts pos e next → (expr_of made.0 ≡ e) × (made.1 ≡ next) → OpenedAt ts pos (Ok made)
opened_ok ts pos e next made r h = subst (λ x. ReadOpened ts pos x made.1) (sym h.0) (subst (λ n. ReadOpened ts pos e n) (sym h.1) r)

abbrev close_then : WrittenExpr → List Kind → List Kind
close_then e ks = expr_then (expr_of e) (mark (codes ")") ∷ ks)

pub unary_at : (op : UnaryOp) (ts : List Kind) (pos : ℕ) (r made : Result (WrittenExpr × ℕ) Stop) → is_mark (unary_mark op) (slice_get ts pos) ≡ true → takes opened (mark (unary_mark op)) ≡ Some (an_expr to_close ∷ [])
    → Phrase (an_expr to_close ∷ []) close_then ts (pos + 1) r → Makes expr_of expr_of (λ a. w_unary op a) r made → OpenedAt ts pos made
unary_at op ts pos (Ok found) (Ok made) m t x h =
    let k = mark_is (unary_mark op) (slice_get ts pos) m in
    let a = x.after in
    opened_ok ts pos (w_unary op (expr_of found.0)) found.1 made
    (record { after = omega (arith, a); within = x.within; are = ap (λ z. mark (codes "(") ∷ z) (drop_some ts pos (mark (unary_mark op)) k) ∙ ap (λ z. mark (codes "(") ∷ mark (unary_mark op) ∷ z) x.are }) h
unary_at op ts pos (Ok found) (Err stop) m t x h = subst (λ s. OpenedAt ts pos (Err s)) (sym h) tt
unary_at op ts pos (Err (Unexpected i)) made m t x h =
    let k = mark_is (unary_mark op) (slice_get ts pos) m in
    subst (λ z. OpenedAt ts pos z) (sym h) (record { within = x.within; there = λ hs. taken_at opened hs (an_expr to_close ∷ []) ts pos (mark (unary_mark op)) k t ∙ x.there hs })
unary_at op ts pos (Err NoMemory) made m t x h = subst (λ z. OpenedAt ts pos z) (sym h) tt

-- an expression that is not read, where no unary operator stands
same_primary : (o : Option Kind) (hs : Goals) (ts : List Kind) (pos : ℕ) → slice_get ts pos ≡ o → is_mark (codes "~") o ≡ false → is_mark (codes "!") o ≡ false → stuck (opened ∷ hs) (drop pos ts) ≡ stuck (an_expr to_operator ∷ hs) (drop pos ts)
same_primary None hs ts pos e a b = let d = drop_none ts pos e in ap (stuck (opened ∷ hs)) d ∙ ap (stuck (an_expr to_operator ∷ hs)) (sym d)
same_primary (Some (mark x)) hs ts pos e a b = let d = drop_some ts pos (mark x) e in ap (stuck (opened ∷ hs)) d ∙ rw (a, b) refl ∙ ap (stuck (an_expr to_operator ∷ hs)) (sym d)
same_primary (Some (a_name x)) hs ts pos e a b = let d = drop_some ts pos (a_name x) e in ap (stuck (opened ∷ hs)) d ∙ ap (stuck (an_expr to_operator ∷ hs)) (sym d)
same_primary (Some (keyword x)) hs ts pos e a b = let d = drop_some ts pos (keyword x) e in ap (stuck (opened ∷ hs)) d ∙ ap (stuck (an_expr to_operator ∷ hs)) (sym d)
same_primary (Some (plain n)) hs ts pos e a b = let d = drop_some ts pos (plain n) e in ap (stuck (opened ∷ hs)) d ∙ ap (stuck (an_expr to_operator ∷ hs)) (sym d)
same_primary (Some (literal w n)) hs ts pos e a b = let d = drop_some ts pos (literal w n) e in ap (stuck (opened ∷ hs)) d ∙ ap (stuck (an_expr to_operator ∷ hs)) (sym d)
same_primary (Some finish) hs ts pos e a b = let d = drop_some ts pos finish e in ap (stuck (opened ∷ hs)) d ∙ ap (stuck (an_expr to_operator ∷ hs)) (sym d)

pub opened_fails : (ts : List Kind) (pos : ℕ) (r : Result (WrittenExpr × ℕ) Stop) (stop : Stop) → r ≡ Err stop → is_mark (codes "~") (slice_get ts pos) ≡ false → is_mark (codes "!") (slice_get ts pos) ≡ false → ExprAt ts pos (Err stop) → OpenedAt ts pos r
opened_fails ts pos r (Unexpected i) e a b x = subst (λ z. OpenedAt ts pos z) (sym e) (record { within = x.within; there = λ hs. same_primary (slice_get ts pos) hs ts pos refl a b ∙ x.there to_operator hs })
opened_fails ts pos r NoMemory e a b x = subst (λ z. OpenedAt ts pos z) (sym e) tt

-- ---- operators

-- the first of these signs
abbrev Right : List Sign → Type 0
Right [] = Unit {0}
Right (s ∷ ss) = (s.text ≡ binary_mark (binary_of s.op)) × Right ss

among_is : (ss : List Sign) (m : List ℕ) (op : P4Binary) → Right ss → among ss m ≡ Some op → m ≡ binary_mark (binary_of op)
among_is [] m op r h = absurd cc
among_is (s ∷ ss) m op r h = pick (same_name s.text m) refl (among_is ss m op r.1)
  where
    pick : (b : Bool) → same_name s.text m ≡ b → (among ss m ≡ Some op → m ≡ binary_mark (binary_of op)) → m ≡ binary_mark (binary_of op)
    pick true e others =
        let found : Some s.op ≡ Some op = rw e at h in
        let same : s.op ≡ op = cc in
        sym (same_text s.text m e) ∙ r.0 ∙ ap (λ (o : P4Binary). binary_mark (binary_of o)) same
    pick false e others = others (rw e at h)

right_signs : Right signs
right_signs = (refl, (refl, (refl, (refl, (refl, (refl, (refl, (refl, (refl, (refl, (refl, (refl, (refl, (refl, tt))))))))))))))

operator_is : (o : Option Kind) (op : P4Binary) → operator_at (mark_in o) ≡ Some op → o ≡ Some (mark (binary_mark (binary_of op)))
operator_is (Some (mark m)) op h = ap (λ z. Some (mark z)) (among_is signs m op right_signs h)
operator_is None op h = absurd cc
operator_is (Some (a_name x)) op h = absurd cc
operator_is (Some (keyword x)) op h = absurd cc
operator_is (Some (plain n)) op h = absurd cc
operator_is (Some (literal w n)) op h = absurd cc
operator_is (Some finish) op h = absurd cc

-- the ways of signs
abbrev ways_of : List Sign → List Way → List Way
ways_of [] ws = ws
ways_of (s ∷ ss) ws = way s.text (an_expr to_close ∷ []) ∷ ways_of ss ws

no_sign : (ss : List Sign) (ws : List Way) (m : List ℕ) → among ss m ≡ None → by_text (ways_of ss ws) m ≡ by_text ws m
no_sign [] ws m h = refl
no_sign (s ∷ ss) ws m h = pick (same_name s.text m) refl (no_sign ss ws m)
  where
    pick : (b : Bool) → same_name s.text m ≡ b → (among ss m ≡ None → by_text (ways_of ss ws) m ≡ by_text ws m) → by_text (ways_of (s ∷ ss) ws) m ≡ by_text ws m
    pick true e others = let found : Some s.op ≡ None = rw e at h in absurd cc
    pick false e others = rw e (others (rw e at h))

pub binary_at : (ts : List Kind) (pos : ℕ) (a : ExprText) (next : ℕ) (op : P4Binary) (r made : Result (WrittenExpr × ℕ) Stop) → ReadExpr ts pos a next → operator_at (mark_in (slice_get ts next)) ≡ Some op
    → Phrase (an_expr to_close ∷ []) close_then ts (next + 1) r → Makes expr_of expr_of (λ b. w_binary op a b) r made → OpenedAt ts pos made
binary_at ts pos a next op (Ok found) (Ok made) l o x h =
    let d = drop_some ts next (mark (binary_mark (binary_of op))) (operator_is (slice_get ts next) op o) in
    let y = l.after in
    let z = x.after in
    opened_ok ts pos (w_binary op a (expr_of found.0)) found.1 made
    (record { after = omega (arith, y, z); within = x.within; are = ap (λ k. mark (codes "(") ∷ k) (l.are ∙ ap (expr_then a) (d ∙ ap (λ k. mark (binary_mark (binary_of op)) ∷ k) x.are)) }) h
binary_at ts pos a next op (Ok found) (Err stop) l o x h = subst (λ s. OpenedAt ts pos (Err s)) (sym h) tt
binary_at ts pos a next op (Err (Unexpected i)) made l o x h =
    let d = drop_some ts next (mark (binary_mark (binary_of op))) (operator_is (slice_get ts next) op o) in
    subst (λ z. OpenedAt ts pos z) (sym h)
    (record { within = x.within; there = λ hs. first ts pos a next l hs ∙ ap (stuck (after_expr to_operator ∷ hs)) d ∙ op_pass op hs (drop (next + 1) ts) ∙ x.there hs })
binary_at ts pos a next op (Err NoMemory) made l o x h = subst (λ z. OpenedAt ts pos z) (sym h) tt

-- ---- choices

question_by : (b : Bool) (m : List ℕ) (hs : Goals) (ts : List Kind) (next : ℕ) → same_name (codes "?") m ≡ b → drop next ts ≡ mark m ∷ drop (next + 1) ts → same_name (codes "[") m ≡ false → among signs m ≡ None
    → stuck (after_expr to_operator ∷ hs) (drop next ts) ≡ stuck (sides_goals ++ hs) (drop next ts)
question_by true m hs ts next e d b o = ap (stuck (after_expr to_operator ∷ hs)) d ∙ rw (b, no_sign signs (way (codes "?") (an_expr to_colon ∷ an_expr to_close ∷ []) ∷ []) m o, e) refl ∙ ap (stuck (sides_goals ++ hs)) (sym d)
question_by false m hs ts next e d b o = ap (stuck (after_expr to_operator ∷ hs)) d ∙ rw (b, no_sign signs (way (codes "?") (an_expr to_colon ∷ an_expr to_close ∷ []) ∷ []) m o, e) refl ∙ ap (stuck (sides_goals ++ hs)) (sym d)

same_sides : (o : Option Kind) (hs : Goals) (ts : List Kind) (next : ℕ) → slice_get ts next ≡ o → is_mark (codes "[") o ≡ false → operator_at (mark_in o) ≡ None
    → stuck (after_expr to_operator ∷ hs) (drop next ts) ≡ stuck (sides_goals ++ hs) (drop next ts)
same_sides None hs ts next e b h = let d = drop_none ts next e in ap (stuck (after_expr to_operator ∷ hs)) d ∙ ap (stuck (sides_goals ++ hs)) (sym d)
same_sides (Some (mark m)) hs ts next e b h = question_by (same_name (codes "?") m) m hs ts next refl (drop_some ts next (mark m) e) b h
same_sides (Some (a_name x)) hs ts next e b h = let d = drop_some ts next (a_name x) e in ap (stuck (after_expr to_operator ∷ hs)) d ∙ ap (stuck (sides_goals ++ hs)) (sym d)
same_sides (Some (keyword x)) hs ts next e b h = let d = drop_some ts next (keyword x) e in ap (stuck (after_expr to_operator ∷ hs)) d ∙ ap (stuck (sides_goals ++ hs)) (sym d)
same_sides (Some (plain n)) hs ts next e b h = let d = drop_some ts next (plain n) e in ap (stuck (after_expr to_operator ∷ hs)) d ∙ ap (stuck (sides_goals ++ hs)) (sym d)
same_sides (Some (literal w n)) hs ts next e b h = let d = drop_some ts next (literal w n) e in ap (stuck (after_expr to_operator ∷ hs)) d ∙ ap (stuck (sides_goals ++ hs)) (sym d)
same_sides (Some finish) hs ts next e b h = let d = drop_some ts next finish e in ap (stuck (after_expr to_operator ∷ hs)) d ∙ ap (stuck (sides_goals ++ hs)) (sym d)

pub pick_at : (ts : List Kind) (pos : ℕ) (c : ExprText) (next : ℕ) (r : Result ((WrittenExpr × WrittenExpr) × ℕ) Stop) (made : Result (WrittenExpr × ℕ) Stop) → ReadExpr ts pos c next → is_mark (codes "[") (slice_get ts next) ≡ false
    → operator_at (mark_in (slice_get ts next)) ≡ None → Phrase sides_goals sides_then ts next r → Makes sides_of expr_of (λ (p : Sides). w_pick c p.first p.second) r made → OpenedAt ts pos made
pick_at ts pos c next (Ok found) (Ok made) l b o x h =
    let y = l.after in
    let z = x.after in
    opened_ok ts pos (w_pick c (expr_of found.0.0) (expr_of found.0.1)) found.1 made
    (record { after = omega (arith, y, z); within = x.within; are = ap (λ k. mark (codes "(") ∷ k) (l.are ∙ ap (expr_then c) x.are) }) h
pick_at ts pos c next (Ok found) (Err stop) l b o x h = subst (λ s. OpenedAt ts pos (Err s)) (sym h) tt
pick_at ts pos c next (Err (Unexpected i)) made l b o x h =
    subst (λ z. OpenedAt ts pos z) (sym h)
    (record { within = x.within; there = λ hs. first ts pos c next l hs ∙ same_sides (slice_get ts next) hs ts next refl b o ∙ x.there hs })
pick_at ts pos c next (Err NoMemory) made l b o x h = subst (λ z. OpenedAt ts pos z) (sym h) tt
