-- The guard of a location that a run sends to is true.
use Rattle.std.proofs.Common.{◌≡◌, ℕ, Bool, true, false, List, [], ◌∷◌, Option, Some, None, if◌then◌else◌, refl, sym, ap, ◌∙◌}
use Rattle.std.specs.Prelude.{option_and_then, option_map}
use Rattle.cocoon_num.specs.Packets.{Packet}
use Rattle.cocoon_num.specs.Tree.{Stmt, let_, set_field, if_, filter, havoc_var, havoc_field, assume, fork, send, Block, no_stmts, stmt, Role}
use Rattle.cocoon_num.specs.Values.{Value, number, truth, as_number, fits_width}
use Rattle.cocoon_types.specs.Design.{field_width, write_field}
use Rattle.cocoon_types.specs.Runs.{falls, sends, Loc, World}
use Rattle.cocoon_types.specs.Taken.{Ended, Reached, back, body_go, by_truth, go, go_on, guard_at, if_reached, if_true, only_sends, run, run_all, take_one, where_true}
use Rattle.cocoon_types.specs.Val.{Env, bind, bound, numbers, value}
use Rattle.sound_types.proofs.Options.{then_there}

-- what is sent is sent to where a guard is true
abbrev SentTrue : World → Ended → Type 0
SentTrue w None = Unit {0}
SentTrue w (Some (falls env q, cs)) = Unit {0}
SentTrue w (Some (sends to q, cs)) = guard_at w to ≡ Some (truth true)

module _ (w : World) where
  guarded : (o : Option Value) (r : Ended) → SentTrue w r → SentTrue w (where_true o r)
  guarded None r h = tt
  guarded (Some (truth true)) r h = h
  guarded (Some (truth false)) r h = tt
  guarded (Some (number v n)) r h = tt

  sent_where : (to : Loc) (p : Packet) (cs : List ℕ) (o : Option Value) → guard_at w to ≡ o → SentTrue w (where_true o (Some (sends to p, cs)))
  sent_where to p cs None e = tt
  sent_where to p cs (Some (truth true)) e = e
  sent_where to p cs (Some (truth false)) e = tt
  sent_where to p cs (Some (number v n)) e = tt

  branched : (o : Option Value) (r s : Ended) → SentTrue w r → SentTrue w s → SentTrue w (by_truth o r s)
  branched None r s h k = tt
  branched (Some (truth true)) r s h k = h
  branched (Some (truth false)) r s h k = k
  branched (Some (number v n)) r s h k = tt

  backed : (env : Env) (r : Ended) → SentTrue w r → SentTrue w (back env r)
  backed env None h = tt
  backed env (Some (falls inner q, cs)) h = tt
  backed env (Some (sends to q, cs)) h = h

  only : (r : Ended) → SentTrue w r → SentTrue w (only_sends r)
  only None h = tt
  only (Some (falls env q, cs)) h = tt
  only (Some (sends to q, cs)) h = h

  took : (width : ℕ) (cs : List ℕ) (f : ℕ → List ℕ → Ended) → ((c : ℕ) (rest : List ℕ) → SentTrue w (f c rest)) → SentTrue w (take_one width cs f)
  took width [] f h = tt
  took width (c ∷ cs) f h = by_case (fits_width width c)
    where
      by_case : (b : Bool) → SentTrue w (if b then f c cs else None)
      by_case true = h c cs
      by_case false = tt

  fell : {A : Type 0} (o : Option A) (f : A → Env) (g : A → Packet) (cs : List ℕ) → SentTrue w (option_map (λ a. (falls (f a) (g a), cs)) o)
  fell None f g cs = tt
  fell (Some a) f g cs = tt

  went_on : (r : Ended) (f : Env → Packet → List ℕ → Ended) → SentTrue w r → ((env : Env) (p : Packet) (cs : List ℕ) → SentTrue w (f env p cs)) → SentTrue w (go_on r f)
  went_on None f h k = tt
  went_on (Some (falls env p, cs)) f h k = k env p cs
  went_on (Some (sends to p, cs)) f h k = h

  mutual
    sent_run : (st : Stmt) (env : Env) (p : Packet) (cs : List ℕ) → SentTrue w (run w st env p cs)
    sent_run (let_ at x width e) env p cs = fell (value w.context env p e) (λ v. bound x.text v env) (λ v. p) cs
    sent_run (set_field at h f e) env p cs = fell (option_and_then as_number (value w.context env p e)) (λ n. env) (λ n. write_field w.context.headers p h.text f.text n) cs
    sent_run (if_ at e a b) env p cs = backed env _ (branched (value w.context env p e) _ _ (sent_block a env p cs) (sent_block b env p cs))
    sent_run (filter at e) env p cs = guarded (value w.context env p e) (Some (falls env p, cs)) tt
    sent_run (havoc_var at x width) env p cs = took width cs (λ c rest. Some (falls (bound x.text (number width c) env) p, rest)) (λ c rest. tt)
    sent_run (havoc_field at h f) env p cs = by_width (field_width w.context.headers h.text f.text)
      where
        by_width : (o : Option ℕ) → SentTrue w (option_and_then (λ width. take_one width cs (λ c rest. Some (falls env (write_field w.context.headers p h.text f.text c), rest))) o)
        by_width None = tt
        by_width (Some width) = took width cs (λ c rest. Some (falls env (write_field w.context.headers p h.text f.text c), rest)) (λ c rest. tt)
    sent_run (assume at e) env p cs = guarded (value w.context env p e) (Some (falls env p, cs)) tt
    sent_run (fork at x width e b) env p cs =
        took width cs (λ c rest. where_true (value w.context (bound x.text (number width c) env) p e) (only_sends (run_all w b (bound x.text (number width c) env) p rest)))
        (λ c rest. guarded (value w.context (bound x.text (number width c) env) p e) _ (only _ (sent_block b (bound x.text (number width c) env) p rest)))
    sent_run (send at r es) env p cs = by_numbers (numbers w.context env p es)
      where
        by_numbers : (o : Option (List ℕ)) → SentTrue w (option_and_then (λ ns. where_true (guard_at w (record { role = r.text; values = ns })) (Some (sends (record { role = r.text; values = ns }) p, cs))) o)
        by_numbers None = tt
        by_numbers (Some ns) = sent_where (record { role = r.text; values = ns }) p cs (guard_at w (record { role = r.text; values = ns })) refl

    sent_block : (b : Block) (env : Env) (p : Packet) (cs : List ℕ) → SentTrue w (run_all w b env p cs)
    sent_block no_stmts env p cs = tt
    sent_block (stmt first rest) env p cs = went_on (run w first env p cs) (λ env' p' more. run_all w rest env' p' more) (sent_run first env p cs) (λ env' p' more. sent_block rest env' p' more)

  true_there : (o : Option Value) (r : Reached) (x : Loc × Packet × List ℕ) → if_true o r ≡ Some x → (o ≡ Some (truth true)) × (r ≡ Some x)
  true_there None r x h = absurd (cc)
  true_there (Some (truth true)) r x h = (refl, h)
  true_there (Some (truth false)) r x h = absurd (cc)
  true_there (Some (number v n)) r x h = absurd (cc)

  ended : (r : Ended) (x : Loc × Packet × List ℕ) → SentTrue w r → if_reached r ≡ Some x → guard_at w x.0 ≡ Some (truth true)
  ended None x h k = absurd (cc)
  ended (Some (falls env q, cs)) x h k = absurd (cc)
  ended (Some (sends to q, cs)) x h k = let same : (to, q, cs) ≡ x = cc in ap (λ (y : Loc × Packet × List ℕ). guard_at w y.0) (sym same) ∙ h

  bodied : (r : Role) (o : Option Block) (from : Loc) (packet : Packet) (cs : List ℕ) (x : Loc × Packet × List ℕ) → body_go w r o from packet cs ≡ Some x → guard_at w x.0 ≡ Some (truth true)
  bodied r None from packet cs x h = absurd (cc)
  bodied r (Some b) from packet cs x h =
      let t = then_there (λ env. if_reached (run_all w b env packet cs)) (bind r.params from.values) x h in
      ended (run_all w b t.0 packet cs) x (sent_block b t.0 packet cs) t.2

  -- both guards are true
  pub goes : (from : Loc) (packet : Packet) (cs : List ℕ) (x : Loc × Packet × List ℕ) → go w from packet cs ≡ Some x → (guard_at w from ≡ Some (truth true)) × (guard_at w x.0 ≡ Some (truth true))
  goes from packet cs x h =
      let t = true_there (guard_at w from) (option_and_then (λ (r : Role). body_go w r r.body from packet cs) (w.role from.role)) x h in
      let r = then_there (λ (r : Role). body_go w r r.body from packet cs) (w.role from.role) x t.1 in
      (t.0, bodied r.0 r.0.body from packet cs x r.2)

  -- the role of a location whose guard is true
  pub record Standing (at : Loc) : Type 0 where
    pub role : Role
    pub env : Env
    pub role_is : w.role at.role ≡ Some role
    pub binds : bind role.params at.values ≡ Some env
    pub is_true : value w.context env [] role.guard ≡ Some (truth true)

  pub standing : (at : Loc) → guard_at w at ≡ Some (truth true) → Standing at
  standing at h =
      let r = then_there (λ (r : Role). option_and_then (λ env. value w.context env [] r.guard) (bind r.params at.values)) (w.role at.role) (truth true) h in
      let e = then_there (λ env. value w.context env [] r.0.guard) (bind r.0.params at.values) (truth true) r.2 in
      record { role = r.0; env = e.0; role_is = r.1; binds = e.1; is_true = e.2 }
