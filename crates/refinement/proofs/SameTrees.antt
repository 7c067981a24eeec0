-- Expressions that are the same trees, token indices aside, have the same value; the same parameters bind the same variables.
use Rattle.std.proofs.Common.{◌≡◌, ℕ, ◌==◌, ◌&&◌, List, [], ◌∷◌, Bool, true, false, Some, None, option_map, option_and_then, if◌then◌else◌, refl, sym, ap, ◌∙◌}
use Rattle.cocoon_num.specs.Names.{same_name}
use Rattle.cocoon_num.specs.Packets.{Packet}
use Rattle.cocoon_num.specs.Reads.{operator}
use Rattle.cocoon_num.specs.Tokens.{Kind, mark, keyword, a_name, same_kind}
use Rattle.cocoon_num.specs.Tree.{Expr, name, field, lit, true_or_false, call, unary, binary, slice, pick, Exprs, no_exprs, expr, Param}
use Rattle.cocoon_num.specs.Values.{number, truth, UnaryOp, flip, not_, BinaryOp, add, sub, bits_and, bits_or, bits_xor, concat, equal, unequal, less, less_equal, greater, greater_equal, and_, or_, implies, as_number, fits_width, apply_unary, apply_binary, apply_slice, apply_pick, with_both, with_all}
use Rattle.cocoon_types.specs.Design.{read_field}
use Rattle.cocoon_types.specs.SameTrees.{same_truth, same_unary, same_expr, same_exprs, same_params}
use Rattle.cocoon_types.specs.Val.{Context, Env, bind, bound, value, numbers, variable}
use Rattle.refinement.proofs.Lists.{same_number}
use Rattle.sound_types.proofs.Options.{both_true, same_text}

truths : (b c : Bool) → same_truth b c ≡ true → b ≡ c
truths true true h = refl
truths true false h = absurd (cc)
truths false true h = absurd (cc)
truths false false h = refl

unaries : (a b : UnaryOp) → same_unary a b ≡ true → a ≡ b
unaries flip flip h = refl
unaries flip not_ h = absurd (cc)
unaries not_ flip h = absurd (cc)
unaries not_ not_ h = refl

-- the operator that is written so
abbrev written : Kind → BinaryOp
written k =
    if same_kind k (operator add) then add else if same_kind k (operator sub) then sub else
    if same_kind k (operator bits_and) then bits_and else if same_kind k (operator bits_or) then bits_or else
    if same_kind k (operator bits_xor) then bits_xor else if same_kind k (operator concat) then concat else
    if same_kind k (operator equal) then equal else if same_kind k (operator unequal) then unequal else
    if same_kind k (operator less) then less else if same_kind k (operator less_equal) then less_equal else
    if same_kind k (operator greater) then greater else if same_kind k (operator greater_equal) then greater_equal else
    if same_kind k (operator and_) then and_ else if same_kind k (operator or_) then or_ else implies

written_is : (op : BinaryOp) → written (operator op) ≡ op
written_is add = refl
written_is sub = refl
written_is bits_and = refl
written_is bits_or = refl
written_is bits_xor = refl
written_is concat = refl
written_is equal = refl
written_is unequal = refl
written_is less = refl
written_is less_equal = refl
written_is greater = refl
written_is greater_equal = refl
written_is and_ = refl
written_is or_ = refl
written_is implies = refl

kinds : (k l : Kind) → same_kind k l ≡ true → k ≡ l
kinds (mark a) (mark b) h = ap mark (same_text a b h)
kinds (keyword a) (keyword b) h = ap keyword (same_text a b h)
kinds (a_name a) (a_name b) h = ap a_name (same_text a b h)
kinds _ _ h = absurd (cc)

operators : (a b : BinaryOp) → same_kind (operator a) (operator b) ≡ true → a ≡ b
operators a b h = sym (written_is a) ∙ ap written (kinds (operator a) (operator b) h) ∙ written_is b

mutual
  -- the same tree has the same value
  pub same_value : (c : Context) (env : Env) (packet : Packet) (e d : Expr) → same_expr e d ≡ true → value c env packet e ≡ value c env packet d
  same_value c env packet (name at x) (name at' y) h = ap (variable env) (same_text x y h)
  same_value c env packet (field at h f) (field at' i g) e =
      let both = both_true (same_name h.text i.text) (same_name f.text g.text) e in
      (λ k. read_field c.headers packet (same_text h.text i.text both.0 k) (same_text f.text g.text both.1 k))
  same_value c env packet (lit at w n) (lit at' v m) h =
      let both = both_true (w == v) (n == m) h in
      (λ k. Some (number (same_number w v both.0 k) (same_number n m both.1 k)))
  same_value c env packet (true_or_false at b) (true_or_false at' d) h = ap (λ x. Some (truth x)) (truths b d h)
  same_value c env packet (call at f es) (call at' g ds) h =
      let both = both_true (same_name f.text g.text) (same_exprs es ds) h in
      (λ k. option_and_then (c.apply (same_text f.text g.text both.0 k)) (same_numbers c env packet es ds both.1 k))
  same_value c env packet (unary at op a) (unary at' o b) h =
      let both = both_true (same_unary op o) (same_expr a b) h in
      (λ k. option_and_then (apply_unary (unaries op o both.0 k)) (same_value c env packet a b both.1 k))
  same_value c env packet (binary at op a b) (binary at' o x y) h =
      let both = both_true (same_kind (operator op) (operator o) && same_expr a x) (same_expr b y) h in
      let first = both_true (same_kind (operator op) (operator o)) (same_expr a x) both.0 in
      (λ k. with_both (apply_binary (operators op o first.0 k)) (same_value c env packet a x first.1 k) (same_value c env packet b y both.1 k))
  same_value c env packet (slice at a u l) (slice at' b i m) h =
      let both = both_true (same_expr a b && (u == i)) (l == m) h in
      let first = both_true (same_expr a b) (u == i) both.0 in
      (λ k. option_and_then (λ v. apply_slice v (same_number u i first.1 k) (same_number l m both.1 k)) (same_value c env packet a b first.0 k))
  same_value c env packet (pick at q a b) (pick at' d x y) h =
      let both = both_true (same_expr q d && same_expr a x) (same_expr b y) h in
      let first = both_true (same_expr q d) (same_expr a x) both.0 in
      (λ k. with_all apply_pick (same_value c env packet q d first.0 k) (same_value c env packet a x first.1 k) (same_value c env packet b y both.1 k))
  same_value c env packet _ _ h = absurd (cc)

  same_numbers : (c : Context) (env : Env) (packet : Packet) (es ds : Exprs) → same_exprs es ds ≡ true → numbers c env packet es ≡ numbers c env packet ds
  same_numbers c env packet no_exprs no_exprs h = refl
  same_numbers c env packet no_exprs (expr d ds) h = absurd (cc)
  same_numbers c env packet (expr e es) no_exprs h = absurd (cc)
  same_numbers c env packet (expr e es) (expr d ds) h =
      let both = both_true (same_expr e d) (same_exprs es ds) h in
      (λ k. with_both (λ n ns. Some (n ∷ ns)) (option_and_then as_number (same_value c env packet e d both.0 k)) (same_numbers c env packet es ds both.1 k))

-- the same parameters bind the same variables
pub same_bind : (ps qs : List Param) → same_params ps qs ≡ true → (ns : List ℕ) → bind ps ns ≡ bind qs ns
same_bind [] [] h ns = refl
same_bind [] (q ∷ qs) h ns = absurd (cc)
same_bind (p ∷ ps) [] h ns = absurd (cc)
same_bind (p ∷ ps) (q ∷ qs) h [] = refl
same_bind (p ∷ ps) (q ∷ qs) h (n ∷ ns) =
    let both = both_true (same_name p.name.text q.name.text && (p.width == q.width)) (same_params ps qs) h in
    let first = both_true (same_name p.name.text q.name.text) (p.width == q.width) both.0 in
    (λ k. if fits_width (same_number p.width q.width first.1 k) n then
    option_map (bound (same_text p.name.text q.name.text first.0 k) (number (same_number p.width q.width first.1 k) n)) (same_bind ps qs both.1 ns k)
    else None)
