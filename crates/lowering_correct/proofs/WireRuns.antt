-- The body of a wire reads no packet and makes no choice: so it leads alike with any packet and any choices, and hands both
-- on.
use Rattle.std.proofs.Common.{◌≡◌, ◌⊎◌, inl, inr, ℕ, ◌||◌, Bool, true, false, List, [], ◌∷◌, ◌++◌, Option, Some, None, refl, ap, ◌∙◌}
use Rattle.std.specs.Prelude.{flat_map, option_and_then}
use Rattle.cocoon_num.specs.Packets.{Packet}
use Rattle.cocoon_num.specs.Tree.{Name, Expr, name, field, lit, true_or_false, call, unary, binary, slice, pick, Exprs, no_exprs, expr, Stmt, let_, set_field, if_, filter, havoc_var, havoc_field, assume, fork, send, Block, no_stmts, stmt, HostDecl, SwitchDecl}
use Rattle.cocoon_num.specs.Values.{Value, number, truth, apply_unary, apply_binary, apply_slice, apply_pick, as_number, with_both, with_all}
use Rattle.cocoon_types.specs.FormRules.{field_read, wire_send, wire_stmt}
use Rattle.cocoon_types.specs.Parts.{parts, parts_of, list_of}
use Rattle.cocoon_types.specs.RuleParts.{unless}
use Rattle.cocoon_types.specs.Runs.{End, falls, sends, Loc, World}
use Rattle.cocoon_types.specs.Sites.{ExprSite, StmtSite, after_stmt, exprs_of_stmt, parts_at, stmt_ends, stmts_at, stmts_in}
use Rattle.cocoon_types.specs.Taken.{Ended, back, by_truth, go_on, guard_at, run, run_all, where_true}
use Rattle.cocoon_types.specs.Typing.{Scope}
use Rattle.cocoon_types.specs.Val.{Context, Env, numbers, value}
use Rattle.sound_types.proofs.Members.{In, in_either, in_left, in_map, in_right, none_at}
use Rattle.sound_types.proofs.Options.{nil_left, nil_right, passes}

-- ---- values without a packet

-- the expression is a field of the packet
abbrev reads : Expr → List ℕ
reads e = elim e [ field at h f ↦ at ∷ [] | _ ↦ [] ]

-- none of these is
abbrev Blind : List Expr → Type 0
Blind es = (x : Expr) → In x es → reads x ≡ []

mutual
  same_value : (c : Context) (env : Env) (p q : Packet) (e : Expr) → Blind (parts e) → value c env p e ≡ value c env q e
  same_value c env p q (name at x) h = refl
  same_value c env p q (field at x f) h = let no : at ∷ [] ≡ [] = h (field at x f) (inl refl) in absurd (cc)
  same_value c env p q (lit at w n) h = refl
  same_value c env p q (true_or_false at b) h = refl
  same_value c env p q (call at f es) h = ap (option_and_then (c.apply f.text)) (same_numbers c env p q es (λ x i. h x (inr i)))
  same_value c env p q (unary at op a) h = ap (option_and_then (apply_unary op)) (same_value c env p q a (λ x i. h x (inr i)))
  same_value c env p q (binary at op a b) h = λ k. with_both (apply_binary op)
      (same_value c env p q a (λ x i. h x (inr (in_left x (parts a) (parts b) i))) k)
      (same_value c env p q b (λ x i. h x (inr (in_right x (parts a) (parts b) i))) k)
  same_value c env p q (slice at a high low) h = ap (option_and_then (λ v. apply_slice v high low)) (same_value c env p q a (λ x i. h x (inr i)))
  same_value c env p q (pick at d a b) h = λ k. with_all apply_pick
      (same_value c env p q d (λ x i. h x (inr (in_left x (parts d ++ parts a) (parts b) (in_left x (parts d) (parts a) i)))) k)
      (same_value c env p q a (λ x i. h x (inr (in_left x (parts d ++ parts a) (parts b) (in_right x (parts d) (parts a) i)))) k)
      (same_value c env p q b (λ x i. h x (inr (in_right x (parts d ++ parts a) (parts b) i))) k)

  same_numbers : (c : Context) (env : Env) (p q : Packet) (es : Exprs) → Blind (parts_of es) → numbers c env p es ≡ numbers c env q es
  same_numbers c env p q no_exprs h = refl
  same_numbers c env p q (expr e es) h = λ k. with_both (λ n ns. Some (n ∷ ns))
      (option_and_then as_number (same_value c env p q e (λ x i. h x (in_left x (parts e) (parts_of es) i)) k))
      (same_numbers c env p q es (λ x i. h x (in_right x (parts e) (parts_of es) i)) k)

-- at a site of which no part reads the packet
blind_at : (s : Scope) (e : Expr) → flat_map field_read (parts_at s e) ≡ [] → Blind (parts e)
blind_at s e h x i = none_at field_read (parts_at s e) h (record { scope = s; e = x }) (in_map (λ (a : Expr). record { scope = s; e = a }) x (parts e) i)

blind_all : (s : Scope) (es : Exprs) → ((x : ExprSite) → In x (flat_map (parts_at s) (list_of es)) → field_read x ≡ []) → Blind (parts_of es)
blind_all s no_exprs h x i = absurd i
blind_all s (expr e es) h x i = elim (split i) [
  | inl k ↦ h (record { scope = s; e = x }) (in_left _ (parts_at s e) (flat_map (parts_at s) (list_of es)) (in_map (λ (a : Expr). record { scope = s; e = a }) x (parts e) k))
  | inr k ↦ blind_all s es (λ y j. h y (in_right y (parts_at s e) (flat_map (parts_at s) (list_of es)) j)) x k
]
  where
    split : In x (parts e ++ parts_of es) → In x (parts e) ⊎ In x (parts_of es)
    split j = in_either x (parts e) (parts_of es) j

-- ---- runs

-- the same end, with this packet
abbrev pub with_packet : Packet → End → End
with_packet p (falls env q) = falls env p
with_packet p (sends to q) = sends to p

-- and with these choices left
abbrev pub handed : Packet → List ℕ → Ended → Ended
handed p cs None = None
handed p cs (Some r) = Some (with_packet p r.0, cs)

-- what is sent goes to a role that a wire may send to
abbrev pub Leads : (List ℕ → Bool) → Ended → Type 0
Leads f None = Unit {0}
Leads f (Some (falls env q, cs)) = Unit {0}
Leads f (Some (sends to q, cs)) = f to.role ≡ true

handed_back : (env : Env) (p : Packet) (cs : List ℕ) (r : Ended) → back env (handed p cs r) ≡ handed p cs (back env r)
handed_back env p cs None = refl
handed_back env p cs (Some (falls inner q, ds)) = refl
handed_back env p cs (Some (sends to q, ds)) = refl

handed_branch : (p : Packet) (cs : List ℕ) (o : Option Value) (r s : Ended) → by_truth o (handed p cs r) (handed p cs s) ≡ handed p cs (by_truth o r s)
handed_branch p cs None r s = refl
handed_branch p cs (Some (truth true)) r s = refl
handed_branch p cs (Some (truth false)) r s = refl
handed_branch p cs (Some (number w n)) r s = refl

handed_guard : (p q : Packet) (cs ds : List ℕ) (to : Loc) (o : Option Value) → where_true o (Some (sends to p, cs)) ≡ handed p cs (where_true o (Some (sends to q, ds)))
handed_guard p q cs ds to None = refl
handed_guard p q cs ds to (Some (truth true)) = refl
handed_guard p q cs ds to (Some (truth false)) = refl
handed_guard p q cs ds to (Some (number w n)) = refl

handed_send : (w : World) (role : List ℕ) (p q : Packet) (cs ds : List ℕ) (o : Option (List ℕ))
    → option_and_then (λ ns. where_true (guard_at w (record { role = role; values = ns })) (Some (sends (record { role = role; values = ns }) p, cs))) o
    ≡ handed p cs (option_and_then (λ ns. where_true (guard_at w (record { role = role; values = ns })) (Some (sends (record { role = role; values = ns }) q, ds))) o)
handed_send w role p q cs ds None = refl
handed_send w role p q cs ds (Some ns) = handed_guard p q cs ds (record { role = role; values = ns }) (guard_at w (record { role = role; values = ns }))

handed_then : (w : World) (p : Packet) (cs : List ℕ) (rest : Block) (r : Ended)
    → ((env : Env) (q : Packet) (ds : List ℕ) → run_all w rest env p cs ≡ handed p cs (run_all w rest env q ds))
    → go_on (handed p cs r) (λ env q ds. run_all w rest env q ds) ≡ handed p cs (go_on r (λ env q ds. run_all w rest env q ds))
handed_then w p cs rest None f = refl
handed_then w p cs rest (Some (falls env q, ds)) f = f env q ds
handed_then w p cs rest (Some (sends to q, ds)) f = refl

leads_back : (f : List ℕ → Bool) (env : Env) (o : Option Value) (r s : Ended) → Leads f r → Leads f s → Leads f (back env (by_truth o r s))
leads_back f env None r s h k = tt
leads_back f env (Some (number w n)) r s h k = tt
leads_back f env (Some (truth true)) r s h k = backs r h
  where
    backs : (x : Ended) → Leads f x → Leads f (back env x)
    backs None g = tt
    backs (Some (falls inner q, ds)) g = tt
    backs (Some (sends to q, ds)) g = g
leads_back f env (Some (truth false)) r s h k = backs s k
  where
    backs : (x : Ended) → Leads f x → Leads f (back env x)
    backs None g = tt
    backs (Some (falls inner q, ds)) g = tt
    backs (Some (sends to q, ds)) g = g

leads_send : (w : World) (f : List ℕ → Bool) (role : List ℕ) (p : Packet) (cs : List ℕ) (o : Option (List ℕ)) → f role ≡ true
    → Leads f (option_and_then (λ ns. where_true (guard_at w (record { role = role; values = ns })) (Some (sends (record { role = role; values = ns }) p, cs))) o)
leads_send w f role p cs None h = tt
leads_send w f role p cs (Some ns) h = guarded (guard_at w (record { role = role; values = ns }))
  where
    guarded : (o : Option Value) → Leads f (where_true o (Some (sends (record { role = role; values = ns }) p, cs)))
    guarded None = tt
    guarded (Some (truth true)) = h
    guarded (Some (truth false)) = tt
    guarded (Some (number w n)) = tt

leads_then : (w : World) (f : List ℕ → Bool) (rest : Block) (r : Ended) → Leads f r
    → ((env : Env) (q : Packet) (ds : List ℕ) → Leads f (run_all w rest env q ds)) → Leads f (go_on r (λ env q ds. run_all w rest env q ds))
leads_then w f rest None h k = tt
leads_then w f rest (Some (falls env q, ds)) h k = k env q ds
leads_then w f rest (Some (sends to q, ds)) h k = h

module _ (hosts : HostDecl) (switches : SwitchDecl) (wire : Name) (w : World) where
  -- a wire's statements
  abbrev pub AreWired : List StmtSite → Type 0
  AreWired sites = (x : StmtSite) → In x sites → wire_stmt hosts switches wire x ≡ []

  -- where it may send
  abbrev pub may_send : List ℕ → Bool
  may_send role = wire_send hosts switches wire (record { at = 0; text = role })

  no_token : (at : ℕ) (xs : List ℕ) → at ∷ xs ≡ [] → ⊥
  no_token at xs h = cc

  mutual
    wire_run : (st : Stmt) (s : Scope) (ended : Bool) → AreWired (stmts_at s ended st) → (env : Env) (p q : Packet) (cs ds : List ℕ)
        → (run w st env p cs ≡ handed p cs (run w st env q ds)) × Leads may_send (run w st env p cs)
    wire_run (if_ at e a b) s ended h env p q cs ds =
        let site : StmtSite = record { scope = s; ended = ended; s = if_ at e a b } in
        let blind = blind_at s e (h site (inl refl)) in
        let first = wire_block a s false (λ x j. h x (inr (in_left x (stmts_in s false a) (stmts_in s false b) j))) env p q cs ds in
        let second = wire_block b s false (λ x j. h x (inr (in_right x (stmts_in s false a) (stmts_in s false b) j))) env p q cs ds in
        let same = same_value w.context env p q e blind in (
          (λ k. back env (by_truth (same k) (first.0 k) (second.0 k)))
              ∙ ap (back env) (handed_branch p cs (value w.context env q e) (run_all w a env q ds) (run_all w b env q ds))
              ∙ handed_back env p cs (by_truth (value w.context env q e) (run_all w a env q ds) (run_all w b env q ds)),
          leads_back may_send env (value w.context env p e) (run_all w a env p cs) (run_all w b env p cs) first.1 second.1,
        )
    wire_run (send at r es) s ended h env p q cs ds =
        let site : StmtSite = record { scope = s; ended = ended; s = send at r es } in
        let none = h site (inl refl) in
        let allowed = passes (wire_send hosts switches wire r) at (nil_left (unless (wire_send hosts switches wire r) at) (flat_map field_read (exprs_of_stmt site)) none) in
        let unread = nil_right (unless (wire_send hosts switches wire r) at) (flat_map field_read (exprs_of_stmt site)) none in
        let same = same_numbers w.context env p q es (blind_all s es (none_at field_read (flat_map (parts_at s) (list_of es)) unread)) in (
          ap (option_and_then (λ ns. where_true (guard_at w (record { role = r.text; values = ns })) (Some (sends (record { role = r.text; values = ns }) p, cs)))) same
              ∙ handed_send w r.text p q cs ds (numbers w.context env q es),
          leads_send w may_send r.text p cs (numbers w.context env p es) allowed,
        )
    wire_run (let_ at x width e) s ended h env p q cs ds = absurd (no_token _ _ (h (record { scope = s; ended = ended; s = let_ at x width e }) (inl refl)))
    wire_run (set_field at x f e) s ended h env p q cs ds = absurd (no_token _ _ (h (record { scope = s; ended = ended; s = set_field at x f e }) (inl refl)))
    wire_run (filter at e) s ended h env p q cs ds = absurd (no_token _ _ (h (record { scope = s; ended = ended; s = filter at e }) (inl refl)))
    wire_run (havoc_var at x width) s ended h env p q cs ds = absurd (no_token _ _ (h (record { scope = s; ended = ended; s = havoc_var at x width }) (inl refl)))
    wire_run (havoc_field at x f) s ended h env p q cs ds = absurd (no_token _ _ (h (record { scope = s; ended = ended; s = havoc_field at x f }) (inl refl)))
    wire_run (assume at e) s ended h env p q cs ds = absurd (no_token _ _ (h (record { scope = s; ended = ended; s = assume at e }) (inl refl)))
    wire_run (fork at x width e b) s ended h env p q cs ds = absurd (no_token _ _ (h (record { scope = s; ended = ended; s = fork at x width e b }) (inl refl)))

    pub wire_block : (b : Block) (s : Scope) (ended : Bool) → AreWired (stmts_in s ended b) → (env : Env) (p q : Packet) (cs ds : List ℕ)
        → (run_all w b env p cs ≡ handed p cs (run_all w b env q ds)) × Leads may_send (run_all w b env p cs)
    wire_block no_stmts s ended h env p q cs ds = (refl, tt)
    wire_block (stmt first rest) s ended h env p q cs ds =
        let more = ended || stmt_ends first in
        let here = wire_run first s ended (λ x j. h x (in_left x (stmts_at s ended first) (stmts_in (after_stmt first s) more rest) j)) env p q cs ds in
        let later = wire_block rest (after_stmt first s) more (λ x j. h x (in_right x (stmts_at s ended first) (stmts_in (after_stmt first s) more rest) j)) in (
          ap (λ r. go_on r (λ env' q' ds'. run_all w rest env' q' ds')) here.0
              ∙ handed_then w p cs rest (run w first env q ds) (λ env' q' ds'. (later env' p q' cs ds').0),
          leads_then w may_send rest (run w first env p cs) here.1 (λ env' q' ds'. (later env' q' q' ds' ds').1),
        )
