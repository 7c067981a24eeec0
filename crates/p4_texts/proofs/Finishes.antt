-- The end of a text is taken by the last goal alone, and the last goal takes nothing else in the end.
use Rattle.std.specs.Prelude.{◌≡◌, ℕ, zero, suc, ◌&&◌, Bool, true, false, not, List, [], ◌∷◌, ◌++◌, slice_get, Some, None, codes, refl, if◌then◌else◌, ◌⊎◌}
use Rattle.std.proofs.Common.{sym, ◌∙◌, ap, inl, inr, append-nil}
use Rattle.std.proofs.lemmas.Bool.{and_parts}
use Rattle.cocoon_num.specs.Names.{same_name}
use Rattle.cocoon_num.specs.Tokens.{Kind, a_name, keyword, plain, literal, mark, finish}
use Rattle.p4_ir.specs.P4Text.{architecture, said}
use Rattle.p4_texts.specs.Machine.{Follow, to_semicolon, to_close, to_operator, to_colon, Goal, exactly, any_name, any_plain, any_literal, an_expr, after_expr, opened, stmts, stmts_or_else, after_else, after_first, dotted, after_meta, after_header, fields, headers, tables, first_key, first_match, keys, Goals, Leaves, Way, by_text, same_token, the_mark, fixed, lines, a_member, a_line, a_control, after_struct, the_deparser, the_egress, the_ingress, the_parser, the_meta, after_ways, primary_ways, open_ways, unary_ways, assigned_ways, tested_ways, returned_ways, applied_ways, opened_ways, match_ways, next_ways, field_ways, table_ways, first_key_ways, key_ways, first_mark, dotted_name, meta_mark, header_mark, else_mark, takes, stuck, whole_text}
use Rattle.p4_texts.specs.Written.{deparser_head, egress_begins, egress_head, ingress_begins, ingress_head, parser_head, text_end}
use Rattle.p4_texts.specs.Reading.{is_end, Ended, the_end, one_before}

-- the goals that may be last
abbrev pub is_last : Goal → Bool
is_last (exactly k) = is_end k
is_last (headers n) = true
is_last g = false

abbrev all_inner : Goals → Bool
all_inner [] = true
all_inner (g ∷ gs) = not (is_last g) && all_inner gs

-- the last goal may be last, and none before
abbrev pub good : Goals → Bool
good [] = false
good (g ∷ []) = is_last g
good (g ∷ h ∷ gs) = not (is_last g) && good (h ∷ gs)

good_more : (g : Goal) (gs : Goals) → is_last g ≡ false → good gs ≡ true → good (g ∷ gs) ≡ true
good_more g [] e h = absurd cc
good_more g (h ∷ gs) e p = rw e p

not_true : (b : Bool) → not b ≡ true → b ≡ false
not_true true h = absurd cc
not_true false h = refl

good_after : (gs hs : Goals) → all_inner gs ≡ true → good hs ≡ true → good (gs ++ hs) ≡ true
good_after [] hs e h = h
good_after (g ∷ gs) hs e h =
    let p = and_parts (not (is_last g)) (all_inner gs) e in
    good_more g (gs ++ hs) (not_true (is_last g) p.0) (good_after gs hs p.1 h)

inner_both : (gs hs : Goals) → all_inner gs ≡ true → all_inner hs ≡ true → all_inner (gs ++ hs) ≡ true
inner_both [] hs e h = h
inner_both (g ∷ gs) hs e h = let p = and_parts (not (is_last g)) (all_inner gs) e in rw (p.0, inner_both gs hs p.1 h) refl

inner_lines : (n : ℕ) (gs : Goals) → all_inner gs ≡ true → all_inner (lines n gs) ≡ true
inner_lines zero gs e = refl
inner_lines (suc n) gs e = inner_both gs (lines n gs) e (inner_lines n gs e)

good_struct : (n : ℕ) → good (after_struct n) ≡ true
good_struct n =
    let emits = lines n (a_line (codes "b.emit(h.")) in
    let extracts = lines n (a_line (codes "b.extract(h.")) in
    let ends = fixed (said text_end) ++ (exactly finish ∷ []) in
    let deparser : good (the_deparser n) ≡ true = good_after (fixed (said deparser_head)) (emits ++ ends) refl (good_after emits ends (inner_lines n (a_line (codes "b.emit(h.")) refl) refl) in
    let egress : good (the_egress n) ≡ true = good_after (fixed (said egress_head)) (a_control egress_begins (the_deparser n)) refl (good_after (a_control egress_begins []) (the_deparser n) refl deparser) in
    let ingress : good (the_ingress n) ≡ true = good_after (fixed (said ingress_head)) (a_control ingress_begins (the_egress n)) refl (good_after (a_control ingress_begins []) (the_egress n) refl egress) in
    let parser : good (the_parser n) ≡ true = good_after (fixed (said parser_head)) (extracts ++ the_ingress n) refl (good_after extracts (the_ingress n) (inner_lines n (a_line (codes "b.extract(h.")) refl) ingress) in
    let meta : good (the_meta n) ≡ true = good_after (fixed (said (codes "} struct Meta {"))) (fields ∷ the_parser n) refl (good_more fields (the_parser n) refl parser) in
    good_after (fixed (said (codes "Headers {"))) (lines n a_member ++ the_meta n) refl (good_after (lines n a_member) (the_meta n) (inner_lines n a_member refl) meta)

-- ---- what is left is inner

abbrev each_inner : List Way → Bool
each_inner [] = true
each_inner (w ∷ ws) = all_inner w.leaves && each_inner ws

ways_inner : (ws : List Way) (x : List ℕ) (more : Goals) → each_inner ws ≡ true → by_text ws x ≡ Some more → all_inner more ≡ true
ways_inner [] x more e h = absurd cc
ways_inner (w ∷ ws) x more e h = pick (same_name w.text x) refl (ways_inner ws x more (and_parts (all_inner w.leaves) (each_inner ws) e).1)
  where
    pick : (b : Bool) → same_name w.text x ≡ b → (by_text ws x ≡ Some more → all_inner more ≡ true) → all_inner more ≡ true
    pick true t others =
        let found : Some w.leaves ≡ Some more = rw t at h in
        let same : w.leaves ≡ more = cc in
        ap all_inner (sym same) ∙ (and_parts (all_inner w.leaves) (each_inner ws) e).0
    pick false t others = others (rw t at h)

some_inner : (rest more : Goals) → all_inner rest ≡ true → Some rest ≡ Some more → all_inner more ≡ true
some_inner rest more e h = let same : rest ≡ more = cc in ap all_inner (sym same) ∙ e

if_inner : (b : Bool) (p q : Leaves) (more : Goals) → (p ≡ Some more → all_inner more ≡ true) → (q ≡ Some more → all_inner more ≡ true) → (if b then p else q) ≡ Some more → all_inner more ≡ true
if_inner true p q more f g h = f h
if_inner false p q more f g h = g h

follow_inner : (f : Follow) → each_inner (after_ways f) ≡ true
follow_inner to_semicolon = refl
follow_inner to_close = refl
follow_inner to_operator = refl
follow_inner to_colon = refl

first_inner : (x m : List ℕ) (more : Goals) → first_mark x m ≡ Some more → all_inner more ≡ true
first_inner x m more h =
    if_inner (same_name (codes ".") m) _ _ more (some_inner (dotted x ∷ []) more refl)
    (if_inner (same_name (codes "=") m) _ _ more (ways_inner assigned_ways x more refl)
    (if_inner (same_name (codes "(") m) _ _ more (ways_inner tested_ways x more refl)
    (if_inner (same_name (codes ";") m) _ _ more (ways_inner returned_ways x more refl) (λ e. absurd cc)))) h

dotted_inner : (x y : List ℕ) (more : Goals) → dotted_name x y ≡ Some more → all_inner more ≡ true
dotted_inner x y more h =
    if_inner (same_name (codes "m") x) _ _ more (some_inner (after_meta y ∷ []) more refl)
    (if_inner (same_name (codes "h") x) _ _ more (some_inner (after_header y ∷ []) more refl) (ways_inner applied_ways y more refl)) h

meta_inner : (y m : List ℕ) (more : Goals) → meta_mark y m ≡ Some more → all_inner more ≡ true
meta_inner y m more h =
    if_inner (same_name (codes "(") m) _ _ more (ways_inner opened_ways y more refl)
    (if_inner (same_name (codes "=") m) _ _ more (some_inner (an_expr to_semicolon ∷ stmts ∷ []) more refl) (λ e. absurd cc)) h

header_inner : (y m : List ℕ) (more : Goals) → header_mark y m ≡ Some more → all_inner more ≡ true
header_inner y m more h =
    if_inner (same_name (codes "(") m) _ _ more (ways_inner opened_ways y more refl)
    (if_inner (same_name (codes ".") m) _ _ more (some_inner (any_name ∷ the_mark (codes "=") ∷ an_expr to_semicolon ∷ stmts ∷ []) more refl) (λ e. absurd cc)) h

else_inner : (m : List ℕ) (more : Goals) → else_mark m ≡ Some more → all_inner more ≡ true
else_inner m more h =
    if_inner (same_name (codes "{") m) _ _ more (some_inner (stmts ∷ stmts ∷ []) more refl)
    (if_inner (same_name (codes ".") m) _ _ more (some_inner (dotted (codes "else") ∷ []) more refl) (λ e. absurd cc)) h

or_else_inner : (x : List ℕ) (more : Goals) → takes stmts_or_else (a_name x) ≡ Some more → all_inner more ≡ true
or_else_inner x more h = if_inner (same_name (codes "else") x) _ _ more (some_inner (after_else ∷ []) more refl) (some_inner (after_first x ∷ []) more refl) h

exactly_inner : (j k : Kind) (more : Goals) → takes (exactly j) k ≡ Some more → all_inner more ≡ true
exactly_inner j k more h = if_inner (same_token j k) _ _ more (some_inner [] more refl) (λ e. absurd cc) h

key_inner : (b : Bool) → each_inner (key_ways b) ≡ true
key_inner true = refl
key_inner false = refl

takes_inner : (g : Goal) (k : Kind) (more : Goals) → is_last g ≡ false → takes g k ≡ Some more → all_inner more ≡ true
takes_inner (exactly j) k more e h = exactly_inner j k more h
takes_inner any_name (a_name x) more e h = some_inner [] more refl h
takes_inner any_plain (plain n) more e h = some_inner [] more refl h
takes_inner any_literal (literal w n) more e h = some_inner [] more refl h
takes_inner (an_expr f) (literal w n) more e h = some_inner (after_expr f ∷ []) more refl h
takes_inner (an_expr f) (a_name x) more e h = ways_inner (primary_ways f) x more refl h
takes_inner (an_expr f) (mark m) more e h = ways_inner (open_ways f) m more refl h
takes_inner (after_expr f) (mark m) more e h = ways_inner (after_ways f) m more (follow_inner f) h
takes_inner opened (literal w n) more e h = some_inner (after_expr to_operator ∷ []) more refl h
takes_inner opened (a_name x) more e h = ways_inner (primary_ways to_operator) x more refl h
takes_inner opened (mark m) more e h = ways_inner unary_ways m more refl h
takes_inner stmts (a_name x) more e h = some_inner (after_first x ∷ []) more refl h
takes_inner stmts (mark m) more e h = ways_inner next_ways m more refl h
takes_inner stmts_or_else (a_name x) more e h = or_else_inner x more h
takes_inner stmts_or_else (mark m) more e h = ways_inner next_ways m more refl h
takes_inner after_else (mark m) more e h = else_inner m more h
takes_inner (after_first x) (mark m) more e h = first_inner x m more h
takes_inner (dotted x) (a_name y) more e h = dotted_inner x y more h
takes_inner (after_meta y) (mark m) more e h = meta_inner y m more h
takes_inner (after_header y) (mark m) more e h = header_inner y m more h
takes_inner fields (a_name x) more e h = ways_inner field_ways x more refl h
takes_inner fields (mark m) more e h = ways_inner next_ways m more refl h
takes_inner (headers n) k more e h = absurd cc
takes_inner tables (a_name x) more e h = ways_inner table_ways x more refl h
takes_inner first_key (a_name x) more e h = ways_inner first_key_ways x more refl h
takes_inner first_key (mark m) more e h = ways_inner next_ways m more refl h
takes_inner first_match (a_name x) more e h = ways_inner match_ways x more refl h
takes_inner (keys b) (a_name x) more e h = ways_inner (key_ways b) x more (key_inner b) h
takes_inner (keys b) (mark m) more e h = ways_inner next_ways m more refl h
takes_inner g k more e h = absurd cc

-- ---- one token

-- the end is taken and nothing is to come, or another token is, and the goals are good again
abbrev Next : Kind → Goals → Type 0
Next k gs = ((is_end k ≡ true) × (gs ≡ [])) ⊎ ((is_end k ≡ false) × (good gs ≡ true))

exactly_end : (j k : Kind) (b : Bool) → same_token j k ≡ b → takes (exactly j) k ≡ Some [] → is_end k ≡ is_end j
exactly_end (a_name x) (a_name y) b e h = refl
exactly_end (keyword x) (keyword y) b e h = refl
exactly_end (plain n) (plain m) b e h = refl
exactly_end (literal w n) (literal v m) b e h = refl
exactly_end (mark x) (mark y) b e h = refl
exactly_end finish finish b e h = refl
exactly_end j k b e h = absurd cc

exactly_leaves : (j k : Kind) (more : Goals) (b : Bool) → same_token j k ≡ b → takes (exactly j) k ≡ Some more → more ≡ []
exactly_leaves j k more true e h = let f : Some [] ≡ Some more = rw e at h in cc
exactly_leaves j k more false e h = let f : None ≡ Some more = rw e at h in absurd cc

-- no other goal takes the end
end_refused : (g : Goal) (k : Kind) (more : Goals) → is_last g ≡ false → takes g k ≡ Some more → is_end k ≡ false
end_refused (exactly j) k more e h = let l = exactly_leaves j k more (same_token j k) refl h in exactly_end j k (same_token j k) refl (h ∙ ap (λ z. Some z) l) ∙ e
end_refused any_name finish more e h = absurd cc
end_refused any_plain finish more e h = absurd cc
end_refused any_literal finish more e h = absurd cc
end_refused (an_expr f) finish more e h = absurd cc
end_refused (after_expr f) finish more e h = absurd cc
end_refused opened finish more e h = absurd cc
end_refused stmts finish more e h = absurd cc
end_refused stmts_or_else finish more e h = absurd cc
end_refused after_else finish more e h = absurd cc
end_refused (after_first x) finish more e h = absurd cc
end_refused (dotted x) finish more e h = absurd cc
end_refused (after_meta y) finish more e h = absurd cc
end_refused (after_header y) finish more e h = absurd cc
end_refused fields finish more e h = absurd cc
end_refused (headers n) finish more e h = absurd cc
end_refused tables finish more e h = absurd cc
end_refused first_key finish more e h = absurd cc
end_refused first_match finish more e h = absurd cc
end_refused (keys b) finish more e h = absurd cc
end_refused g (a_name x) more e h = refl
end_refused g (keyword x) more e h = refl
end_refused g (plain n) more e h = refl
end_refused g (literal w n) more e h = refl
end_refused g (mark m) more e h = refl

headers_good : (n : ℕ) (x : List ℕ) (more : Goals) (b c : Bool) → same_name (codes "header") x ≡ b → same_name (codes "struct") x ≡ c → takes (headers n) (a_name x) ≡ Some more → good more ≡ true
headers_good n x more true c p q h = let f : Some (any_name ∷ the_mark (codes "{") ∷ fields ∷ headers (suc n) ∷ []) ≡ Some more = rw p at h in let e : any_name ∷ the_mark (codes "{") ∷ fields ∷ headers (suc n) ∷ [] ≡ more = cc in ap good (sym e)
headers_good n x more false true p q h = let f : Some (after_struct n) ≡ Some more = rw (p, q) at h in let e : after_struct n ≡ more = cc in ap good (sym e) ∙ good_struct n
headers_good n x more false false p q h = let f : None ≡ Some more = rw (p, q) at h in absurd cc

headers_next : (n : ℕ) (k : Kind) (more : Goals) → takes (headers n) k ≡ Some more → Next k (more ++ [])
headers_next n (a_name x) more h = inr (refl, ap good (append-nil more) ∙ headers_good n x more (same_name (codes "header") x) (same_name (codes "struct") x) refl refl h)
headers_next n k more h = absurd cc

last_next : (g : Goal) (k : Kind) (more : Goals) → is_last g ≡ true → takes g k ≡ Some more → Next k (more ++ [])
last_next (exactly j) k more e h =
    let l = exactly_leaves j k more (same_token j k) refl h in
    inl (exactly_end j k (same_token j k) refl (h ∙ ap (λ z. Some z) l) ∙ e, ap (λ z. z ++ []) l)
last_next (headers n) k more e h = headers_next n k more h
last_next g k more e h = absurd cc

next_good : (g : Goal) (gs : Goals) (k : Kind) (more : Goals) → good (g ∷ gs) ≡ true → takes g k ≡ Some more → Next k (more ++ gs)
next_good g [] k more e h = last_next g k more e h
next_good g (j ∷ gs) k more e h =
    let p = and_parts (not (is_last g)) (good (j ∷ gs)) e in
    let inner = not_true (is_last g) p.0 in
    inr (end_refused g k more inner h, good_after more (j ∷ gs) (takes_inner g k more inner h) p.1)

-- ---- all tokens

nothing_stuck : (ks : List Kind) → stuck [] ks ≡ Some [] → ⊥
nothing_stuck [] h = absurd cc
nothing_stuck (k ∷ ks) h = absurd cc

nothing_left : (ks : List Kind) → stuck [] ks ≡ None → ks ≡ []
nothing_left [] h = refl
nothing_left (k ∷ ks) h = absurd cc

-- tokens that end are not too few
pub never_short : (gs : Goals) {ks : List Kind} → good gs ≡ true → Ended ks → stuck gs ks ≡ Some [] → ⊥
never_short [] e d h = absurd cc
never_short (g ∷ gs) e the_end h = by (takes g finish) refl
  where
    by : (l : Leaves) → takes g finish ≡ l → ⊥
    by None t = let wrong : Some (finish ∷ []) ≡ Some [] = rw t at h in absurd cc
    by (Some more) t = elim (next_good g gs finish more e t) [
      | inl n ↦ (let r : stuck [] [] ≡ Some [] = ap (λ z. stuck z []) (sym n.1) ∙ (rw t at h) in absurd cc)
      | inr n ↦ (let w = n.0 in absurd cc)
    ]
never_short (g ∷ gs) e (one_before {k = k} {ks = ks} n d) h = by (takes g k) refl (λ more f. never_short (more ++ gs) {ks = ks} f d)
  where
    by : (l : Leaves) → takes g k ≡ l → ((more : Goals) → good (more ++ gs) ≡ true → stuck (more ++ gs) ks ≡ Some [] → ⊥) → ⊥
    by None t others = let wrong : Some (k ∷ ks) ≡ Some [] = rw t at h in absurd cc
    by (Some more) t others = elim (next_good g gs k more e t) [
      | inl m ↦ (let w = m.0 in absurd cc)
      | inr m ↦ others more m.1 (rw t at h)
    ]

is_the_end : (k : Kind) → is_end k ≡ true → k ≡ finish
is_the_end finish h = refl
is_the_end k h = absurd cc

-- tokens that are all taken have the end as their last
pub ends_with : (gs : Goals) (ks : List Kind) → good gs ≡ true → stuck gs ks ≡ None → (j : ℕ) × (slice_get ks j ≡ Some finish)
ends_with [] ks e h = absurd cc
ends_with (g ∷ gs) [] e h = absurd cc
ends_with (g ∷ gs) (k ∷ ks) e h = by (takes g k) refl (λ more f. ends_with (more ++ gs) ks f)
  where
    by : (l : Leaves) → takes g k ≡ l → ((more : Goals) → good (more ++ gs) ≡ true → stuck (more ++ gs) ks ≡ None → (j : ℕ) × (slice_get ks j ≡ Some finish)) → (j : ℕ) × (slice_get (k ∷ ks) j ≡ Some finish)
    by None t others = let wrong : Some (k ∷ ks) ≡ None = rw t at h in absurd cc
    by (Some more) t others = elim (next_good g gs k more e t) [
      | inl m ↦ (0, ap (λ z. Some z) (is_the_end k m.0))
      | inr m ↦ (let r = others more m.1 (rw t at h) in (suc r.0, r.1))
    ]

pub good_text : good whole_text ≡ true
good_text = good_after (fixed architecture) (headers 0 ∷ []) refl refl
