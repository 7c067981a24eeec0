-- What becomes of copies on a stack, as copies are put there and taken.
use Rattle.std.proofs.Common.{◌≡◌, ℕ, ◌+◌, List, [], ◌∷◌, ◌++◌, map, Some, None, refl, sym, ◌∙◌, ap, arith}
use Rattle.std.proofs.lemmas.List.{append_assoc, append-nil}
use Rattle.std.specs.List.{flat_map}
use Rattle.p4_ir.specs.NetOf.{end_of}
use Rattle.p4_ir.specs.NetRuns.{link_at}
use Rattle.p4_ir.specs.NetTree.{NetData}
use Rattle.net_run.specs.DepartedOf.{departed_of}
use Rattle.net_run.specs.Departures as spec
use Rattle.net_run.specs.Ends.{behind, End, ends_from, followed, onward}
use Rattle.net_run.specs.RunCounts.{runs_from, runs_of_all, runs_onward}
use Rattle.net_run.specs.UnderWay.{copy_ends, copy_runs, stack_ends, stack_runs}
use Rattle.net_run.specs.declared.departed.Departed.{Departed}
use Rattle.net_run.specs.declared.standing.Standing.{Standing}

-- ---- choices

behind_both : (a b : List ℕ) (es : List End) → behind (a ++ b) es ≡ behind a (behind b es)
behind_both a b [] = refl
behind_both a b (e ∷ es) =
    ap (λ cs. record e { choices = cs } ∷ behind (a ++ b) es) (append_assoc a b e.choices)
    ∙ ap (λ rest. record e { choices = a ++ (b ++ e.choices) } ∷ rest) (behind_both a b es)

behind_append : (a : List ℕ) (xs ys : List End) → behind a (xs ++ ys) ≡ behind a xs ++ behind a ys
behind_append a [] ys = refl
behind_append a (x ∷ xs) ys = ap (λ rest. record x { choices = a ++ x.choices } ∷ rest) (behind_append a xs ys)

pub behind_none : (es : List End) → behind [] es ≡ es
behind_none [] = refl
behind_none (e ∷ es) = ap (λ rest. e ∷ rest) (behind_none es)

-- ---- one more on the stack

pub ends_push : (net : NetData) (cs : List Standing) (c : Standing) → stack_ends net (cs ++ (c ∷ [])) ≡ copy_ends net c ++ stack_ends net cs
ends_push net [] c = sym (append-nil (copy_ends net c))
ends_push net (d ∷ cs) c = ap (λ es. es ++ copy_ends net d) (ends_push net cs c) ∙ append_assoc (copy_ends net c) (stack_ends net cs) (copy_ends net d)

pub runs_push : (net : NetData) (cs : List Standing) (c : Standing) → stack_runs net (cs ++ (c ∷ [])) ≡ copy_runs net c + stack_runs net cs
runs_push net [] c = omega arith
runs_push net (d ∷ cs) c = let e = runs_push net cs c in omega (arith, e)

-- ---- what departed, on the stack

pub next_ends : (net : NetData) (s n : ℕ) (choices : List ℕ) (d : spec.Departed) (next : Standing) (old new : List Standing) → new ≡ old ++ (next ∷ []) → next.choices.items ≡ choices ++ d.way
    → next.bytes.items ≡ d.bytes → next.visits ≡ n → Some (end_of next.at) ≡ link_at net.links s d.port
    → stack_ends net new ≡ behind choices (followed net (ends_from net n) s d) ++ stack_ends net old
next_ends net s n choices d next old new pushed cs bs vs at =
    ap (stack_ends net) pushed ∙ ends_push net old next
    ∙ ap (λ es. es ++ stack_ends net old)
    (ap (λ ns. behind ns (onward (ends_from net next.visits) (Some (end_of next.at)) next.bytes.items)) cs
    ∙ ap (λ b. behind (choices ++ d.way) (onward (ends_from net next.visits) (Some (end_of next.at)) b)) bs
    ∙ ap (λ k. behind (choices ++ d.way) (onward (ends_from net k) (Some (end_of next.at)) d.bytes)) vs
    ∙ ap (λ o. behind (choices ++ d.way) (onward (ends_from net n) o d.bytes)) at
    ∙ behind_both choices d.way (onward (ends_from net n) (link_at net.links s d.port) d.bytes))

pub next_runs : (net : NetData) (s n : ℕ) (d : spec.Departed) (next : Standing) (old new : List Standing) → new ≡ old ++ (next ∷ [])
    → next.bytes.items ≡ d.bytes → next.visits ≡ n → Some (end_of next.at) ≡ link_at net.links s d.port
    → stack_runs net new ≡ runs_of_all net (runs_from net n) s (d ∷ []) + stack_runs net old
next_runs net s n d next old new pushed bs vs at =
    let e : copy_runs net next ≡ runs_onward (runs_from net n) (link_at net.links s d.port) d.bytes =
    ap (λ b. runs_onward (runs_from net next.visits) (Some (end_of next.at)) b) bs
    ∙ ap (λ k. runs_onward (runs_from net k) (Some (end_of next.at)) d.bytes) vs
    ∙ ap (λ o. runs_onward (runs_from net n) o d.bytes) at in
    let p = ap (stack_runs net) pushed ∙ runs_push net old next in
    omega (arith, e, p)

pub no_next_ends : (net : NetData) (s n : ℕ) (choices : List ℕ) (d : spec.Departed) (old : List Standing) → None ≡ link_at net.links s d.port
    → stack_ends net old ≡ behind choices (followed net (ends_from net n) s d) ++ stack_ends net old
no_next_ends net s n choices d old at = ap (λ o. behind choices (behind d.way (onward (ends_from net n) o d.bytes)) ++ stack_ends net old) at

pub no_next_runs : (net : NetData) (s n : ℕ) (d : spec.Departed) (old : List Standing) → None ≡ link_at net.links s d.port
    → stack_runs net old ≡ runs_of_all net (runs_from net n) s (d ∷ []) + stack_runs net old
no_next_runs net s n d old at = let e = ap (λ o. runs_onward (runs_from net n) o d.bytes) at in omega (arith, e)

-- ---- all that departed

last_follows : (f : spec.Departed → List End) (ds : List Departed) (d : Departed) → flat_map f (map departed_of (ds ++ (d ∷ []))) ≡ flat_map f (map departed_of ds) ++ f (departed_of d)
last_follows f [] d = append-nil (f (departed_of d))
last_follows f (x ∷ ds) d = ap (λ es. f (departed_of x) ++ es) (last_follows f ds d) ∙ sym (append_assoc (f (departed_of x)) (flat_map f (map departed_of ds)) (f (departed_of d)))

last_runs : (net : NetData) (count : ℕ → ℕ → List ℕ → ℕ) (s : ℕ) (ds : List Departed) (d : Departed)
    → runs_of_all net count s (map departed_of (ds ++ (d ∷ []))) ≡ runs_of_all net count s (map departed_of ds) + runs_of_all net count s (departed_of d ∷ [])
last_runs net count s [] d = omega arith
last_runs net count s (x ∷ ds) d = let e = last_runs net count s ds d in omega (arith, e)

pub one_less_ends : (f : spec.Departed → List End) (choices : List ℕ) (before rest : List Departed) (d : Departed) (old new : List End) → before ≡ rest ++ (d ∷ []) → new ≡ behind choices (f (departed_of d)) ++ old
    → behind choices (flat_map f (map departed_of rest)) ++ new ≡ behind choices (flat_map f (map departed_of before)) ++ old
one_less_ends f choices before rest d old new last put =
    let here = flat_map f (map departed_of rest) in
    ap (λ es. behind choices here ++ es) put ∙ sym (append_assoc (behind choices here) (behind choices (f (departed_of d))) old)
    ∙ ap (λ es. es ++ old) (sym (behind_append choices here (f (departed_of d))) ∙ ap (behind choices) (sym (last_follows f rest d) ∙ ap (λ ds. flat_map f (map departed_of ds)) (sym last)))

pub one_less_runs : (net : NetData) (count : ℕ → ℕ → List ℕ → ℕ) (s : ℕ) (before rest : List Departed) (d : Departed) (old new : ℕ) → before ≡ rest ++ (d ∷ []) → new ≡ runs_of_all net count s (departed_of d ∷ []) + old
    → runs_of_all net count s (map departed_of rest) + new ≡ runs_of_all net count s (map departed_of before) + old
one_less_runs net count s before rest d old new last put =
    let e = ap (λ ds. runs_of_all net count s (map departed_of ds)) last ∙ last_runs net count s rest d in
    omega (arith, e, put)
