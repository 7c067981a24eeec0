-- The laws, put together.
use Rattle.std.proofs.Common.{◌≡◌, inl, inr, ℕ, List, [], ◌∷◌, ◌++◌, Bool, Some, refl, ap}
use Rattle.std.specs.Prelude.{slice_get}
use Rattle.cocoon_num.specs.Tree.{DefsText, Role, Design}
use Rattle.cocoon_resolve.specs.Readers.{all_widths}
use Rattle.cocoon_types.specs.Design.{role_at}
use Rattle.cocoon_types.specs.Tables.{defs_of}
use Rattle.cocoon_types.specs.Val.{context}
use Rattle.bv_terms.specs.TermValues.{Inputs}
use Rattle.sound_types.specs.Defined.{HasDefinitions}
use Rattle.sound_types.specs.Soundness.{IsSound}
use Rattle.sound_types.proofs.Declared.{names_differ}
use Rattle.sound_types.proofs.Members.{In, at_place, in_left, in_right}
use Rattle.obligation_laws.proofs.Rows.{rows_fit}
use Rattle.obligation_laws.specs.Leaves.{Leaf, tree_of}
use Rattle.obligation_laws.specs.Meant.{AllFit}
use Rattle.obligation_laws.specs.States.{NewInput, TermWorld, term_world}
use Rattle.obligation_laws.proofs.Meaning.{Holds}
use Rattle.obligation_laws.proofs.TreesTogether.{RolesTyped, it_holds}
use Rattle.obligation_laws.specs.LeafShown.{LeafShown}
use Rattle.obligation_laws.specs.MadeOf.{Have, LeafMade, OneOf}
use Rattle.obligation_laws.proofs.LeafValues.{leaf_shown}
use Rattle.obligation_laws.proofs.LeafWays.{one_way}
use Rattle.obligation_laws.proofs.MadeLeaves.{leaf_made}

pub ways_part : (w : TermWorld) (widths : List ℕ) (new : List ℕ → Bool) (bodies : ℕ) (role : List ℕ) (first m n : ℕ) (a b : Leaf)
    → slice_get (tree_of w widths new bodies role first).leaves m ≡ Some a → slice_get (tree_of w widths new bodies role first).leaves n ≡ Some b → a.way ≡ b.way → a ≡ b
ways_part w widths new bodies role first m n a b i j e =
    let leaves = (tree_of w widths new bodies role first).leaves in
    one_way w widths new bodies role first a b (at_place leaves m a i) (at_place leaves n b j) e

-- inputs are among those of which they are some
one_of : (i : NewInput) (all : List NewInput) → In i all → OneOf all i.number i.width
one_of i [] h = h
one_of i (j ∷ all) h = elim h [ inl e ↦ inl (ap (λ (x : NewInput). x.number) e, ap (λ (x : NewInput). x.width) e) | inr k ↦ inr (one_of i all k) ]

all_of : (all is : List NewInput) → ((i : NewInput) → In i is → In i all) → Have (OneOf all) is
all_of all [] h = tt
all_of all (i ∷ is) h = (one_of i all (h i (inl refl)), all_of all is (λ j k. h j (inr k)))

pub tree_made : (d : Design) (level : ℕ) (new : List ℕ → Bool) (bodies : ℕ) (role : List ℕ) (first n : ℕ) (leaf : Leaf)
    → slice_get (tree_of (term_world level d) (all_widths d.headers) new bodies role first).leaves n ≡ Some leaf
    → LeafMade (OneOf ((tree_of (term_world level d) (all_widths d.headers) new bodies role first).args ++ ((tree_of (term_world level d) (all_widths d.headers) new bodies role first).fields ++ leaf.choices))) leaf
tree_made d level new bodies role first n leaf i =
    let tree = tree_of (term_world level d) (all_widths d.headers) new bodies role first in
    let later = tree.fields ++ leaf.choices in
    let all = tree.args ++ later in
    leaf_made (OneOf all) d level new bodies role first leaf (at_place tree.leaves n leaf i) (all_of all tree.args (λ j k. in_left j tree.args later k))
    (all_of all tree.fields (λ j k. in_right j tree.args later (in_left j tree.fields leaf.choices k))) (all_of all leaf.choices (λ j k. in_right j tree.args later (in_right j tree.fields leaf.choices k)))

-- under the definitions of a text everything that is followed has a value
pub holds_of : (d : Design) (es : DefsText) → HasDefinitions d es → IsSound d (context d (defs_of d es)) → RolesTyped d → (level : ℕ) (ins : Inputs) → Holds d (defs_of d es) ins level
holds_of d es h sound roles level ins = it_holds d (defs_of d es) h.rules h.literals (rows_fit d (defs_of d es) (names_differ d h.rules) sound) roles level ins

pub tree_shown : (d : Design) (es : DefsText) → HasDefinitions d es → IsSound d (context d (defs_of d es)) → RolesTyped d → (ins : Inputs) (level : ℕ) (new : List ℕ → Bool) (bodies : ℕ) (role : List ℕ) (r : Role)
    → role_at level d role ≡ Some r → (first n : ℕ) (leaf : Leaf) → slice_get (tree_of (term_world level d) (all_widths d.headers) new bodies role first).leaves n ≡ Some leaf
    → AllFit ins (tree_of (term_world level d) (all_widths d.headers) new bodies role first).args → AllFit ins (tree_of (term_world level d) (all_widths d.headers) new bodies role first).fields
    → AllFit ins leaf.choices → LeafShown d (defs_of d es) ins level leaf
tree_shown d es h sound roles ins level new bodies role r is first n leaf i =
    leaf_shown d (defs_of d es) ins level (holds_of d es h sound roles level ins) new bodies role first r is leaf
    (at_place (tree_of (term_world level d) (all_widths d.headers) new bodies role first).leaves n leaf i)
