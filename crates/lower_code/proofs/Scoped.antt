-- The variables of a block are put before those that it began with.
use Rattle.std.proofs.Common.{◌≡◌, ℕ, suc, ◌+◌, ◌≤◌, Bool, true, false, List, [], ◌∷◌, ◌++◌, map, take, drop, length, reverse, refl, sym, ap, ◌∙◌, arith}
use Rattle.std.proofs.lemmas.List.{append_assoc, length-append, length-map, length-reverse, length-take-le, map-append, reverse-append, take-append-drop}
use Rattle.cocoon_num.specs.Tree.{Stmt, Block, let_, set_field, if_, filter, havoc_var, havoc_field, assume, fork, send, no_stmts, stmt}
use Rattle.lowering.specs.Lower.{Callees, Counts, Lowered, lower_exprs, then_called}
use Rattle.lowering.specs.Lower as lower
use Rattle.lowering.specs.LowerBlock.{LoweredBlock, fork_args, fork_function, forked, in_block, lower_block, lower_stmt}
use Rattle.lower_code.specs.Variables.{variable_of, variables_of}
use Rattle.lower_code.specs.declared.variables.Variable.{Variable}

abbrev pub Rises : List lower.Variable → LoweredBlock → Type 0
Rises vars b = (more : List lower.Variable) × (b.vars ≡ more ++ vars)

fork_rises : (x : List ℕ) (w : ℕ) (body : Block) (b : Bool) (vars : List lower.Variable) (r : Lowered) → Rises vars (forked x w body b vars r)
fork_rises x w body true vars r = ([], refl)
fork_rises x w body false vars r = ([], refl)

stmt_rises : (c : Callees) (vars : List lower.Variable) (n : Counts) (s : Stmt) → Rises vars (lower_stmt c vars n s)
stmt_rises c vars n (let_ at x w e) = (_ ∷ [], refl)
stmt_rises c vars n (set_field at h f e) = ([], refl)
stmt_rises c vars n (if_ at e a b) = ([], refl)
stmt_rises c vars n (filter at e) = ([], refl)
stmt_rises c vars n (havoc_var at x w) = ([], refl)
stmt_rises c vars n (havoc_field at h f) = ([], refl)
stmt_rises c vars n (assume at e) = ([], refl)
stmt_rises c vars n (fork at x w e body) = fork_rises x.text w body (in_block c.port body) vars (then_called (lower_exprs c vars n (fork_args e)) (c.group (fork_function e)))
stmt_rises c vars n (send at r es) = ([], refl)

pub block_rises : (c : Callees) (vars : List lower.Variable) (n : Counts) (b : Block) → Rises vars (lower_block c vars n b)
block_rises c vars n no_stmts = ([], refl)
block_rises c vars n (stmt s rest) =
    let a = lower_stmt c vars n s in
    let first = stmt_rises c vars n s in
    let more = block_rises c a.vars a.next rest in
    (more.0 ++ first.0, more.1 ∙ ap (λ vs. more.0 ++ vs) first.1 ∙ sym (append_assoc more.0 first.0 vars))

same_back : {A : Type 0} (a b c d : List A) → a ++ b ≡ c ++ d → length b ≡ length d → b ≡ d
same_back [] b [] d h l = h
same_back [] b (y ∷ c) d h l =
    let e : length b ≡ suc (length c + length d) = ap length h ∙ ap suc (length-append c d) in
    absurd (omega arith)
same_back (x ∷ a) b [] d h l =
    let e : suc (length a + length b) ≡ length d = ap suc (sym (length-append a b)) ∙ ap length h in
    absurd (omega arith)
same_back (x ∷ a) b (y ∷ c) d h l = let e : a ++ b ≡ c ++ d = cc in same_back a b c d e l

-- the variables that there were before are the first of those in memory
pub cut_back : (old new : List Variable) (more : List lower.Variable) → variables_of new ≡ more ++ variables_of old
    → variables_of (take (length old) new) ≡ variables_of old
cut_back old new more h =
    let k = length old in
    let count = λ (vs : List Variable). length-map (reverse vs) variable_of ∙ length-reverse vs in
    let whole : length new ≡ length more + length (variables_of old) = sym (count new) ∙ ap length h ∙ length-append more (variables_of old) in
    let within : k ≤ length new = let e : length (variables_of old) ≡ k = count old in omega arith in
    let split : variables_of (drop k new) ++ variables_of (take k new) ≡ more ++ variables_of old =
    sym (map-append variable_of (reverse (drop k new)) (reverse (take k new))) ∙ ap (map variable_of) (sym (reverse-append (take k new) (drop k new)))
    ∙ ap variables_of (take-append-drop k new) ∙ h in
    same_back (variables_of (drop k new)) (variables_of (take k new)) more (variables_of old) split
    (count (take k new) ∙ length-take-le k new within ∙ sym (count old))
