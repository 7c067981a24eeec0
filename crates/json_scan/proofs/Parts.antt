-- Values, items and members of a text, a part at a time.
use Rattle.std.proofs.Common.{◌≡◌, ℕ, suc, ◌-◌, ◌<◌, Bool, List, [], ◌∷◌, length, Option, Some, None, refl, ap, ap₂, subst, ◌∙◌, arith}
use Rattle.json.specs.Token.{Token}
use Rattle.json.specs.Json.{parse_map, after_end_array, read_key, items, members, value}
use Rattle.json.proofs.Grammar.{value_is}
use Rattle.serde_json.specs.Data.{Data, Num, null, boolean, number, string, array, object, Items, no_items, item, Members, put}
use Rattle.serde_json.specs.Read.{converted, number_of, of_json, of_items, of_members}
use Rattle.json_scan.specs.Numbers.{num_of}
use Rattle.json_scan.specs.Scanning.{read_value, read_items, read_members, Reads, ReadsItems, ReadsMembers, Passes, PassesItems, PassesMembers, IsOther, Starts}
use Rattle.json_scan.specs.declared.number.JsonNumber.{JsonNumber}
use Rattle.json_scan.specs.declared.start.Start.{Start}
use Rattle.json_scan.specs.declared.start.Start.TheVariants.{Array, Object, Number, Other}
use Rattle.json_scan.proofs.Turns.{converted_some, converted-array, converted-object, item_read, turn_refused, items_over, member_read, value_refused, no_key, members_over}
use Rattle.json_scan.proofs.Fuel.{items_enough, members_enough, shorter_value, value_shorter}

pub twice : {A B C : Type 0} (g : B → C) (f : A → B) (o : Option (A × List Token)) → parse_map g (parse_map f o) ≡ parse_map (λ a. g (f a)) o
twice g f None = refl
twice g f (Some p) = refl

pub itself : {A : Type 0} (o : Option (A × List Token)) → o ≡ parse_map (λ a. a) o
itself None = refl
itself (Some p) = refl

pub taken_shorter : (depth : ℕ) (ts r : List Token) (d : Data) → read_value depth ts ≡ Some (d, r) → length r < length ts
taken_shorter depth ts r d e = let j = converted_some of_json (value depth ts) d r e in value_shorter depth ts r j.0 j.1

-- ---- items

pub no_more_items : (depth : ℕ) (ts r : List Token) → after_end_array ts ≡ Some r → read_items depth ts ≡ Some (no_items, r)
no_more_items depth ts r e = items_over (value depth) (length ts) ts r (omega arith) e

pub one_more_item : (depth : ℕ) (ts r : List Token) (d : Data) → after_end_array ts ≡ None → read_value depth ts ≡ Some (d, r) → read_items depth ts ≡ parse_map (item d) (read_items depth r)
one_more_item depth ts r d going e =
    let less = taken_shorter depth ts r d e in
    item_read (value depth) (length ts) ts r d (omega (arith, less)) going e
    ∙ ap (λ o. parse_map (item d) (converted of_items o)) (items_enough (value depth) (shorter_value depth) (length ts - 1) (length r) r (omega (arith, less)) (omega arith))

pub item_refused : (depth : ℕ) (ts : List Token) → after_end_array ts ≡ None → read_value depth ts ≡ None → read_items depth ts ≡ None
item_refused depth ts going e = turn_refused (value depth) (length ts) ts going e

-- ---- members

abbrev pub members_from : ℕ → Members → List Token → Option (Members × List Token)
members_from depth old ts = converted (λ ms. of_members ms old) (members (value depth) (length ts) ts)

pub no_more_members : (depth : ℕ) (old : Members) (ts r : List Token) → read_key ts ≡ Some (None, r) → members_from depth old ts ≡ Some (old, r)
no_more_members depth old ts r e = members_over (value depth) old (length ts) ts r (omega arith) e

pub one_more_member : (depth : ℕ) (old : Members) (k : List ℕ) (ts s r : List Token) (d : Data) → length s < length ts → read_key ts ≡ Some (Some k, s) → read_value depth s ≡ Some (d, r)
    → members_from depth old ts ≡ members_from depth (put k d old) r
one_more_member depth old k ts s r d shorter key e =
    let less = taken_shorter depth s r d e in
    member_read (value depth) old (length ts) k ts s r d (omega (arith, less, shorter)) key e
    ∙ ap (converted (λ ms. of_members ms (put k d old))) (members_enough (value depth) (shorter_value depth) (length ts - 1) (length r) r (omega (arith, less, shorter)) (omega arith))

pub member_refused : (depth : ℕ) (old : Members) (k : List ℕ) (ts s : List Token) → read_key ts ≡ Some (Some k, s) → read_value depth s ≡ None → members_from depth old ts ≡ None
member_refused depth old k ts s key e = value_refused (value depth) old (length ts) k ts s key e

pub key_refused : (depth : ℕ) (old : Members) (ts : List Token) → read_key ts ≡ None → members_from depth old ts ≡ None
key_refused depth old ts e = no_key (value depth) old (length ts) ts e

-- ---- values

array_value : (within : ℕ) (rest : List Token) → read_value (suc within) (Token.begin_array ∷ rest) ≡ parse_map array (read_items within rest)
unfolding value
array_value within rest = converted-array (items (value within) (length rest) rest)

object_value : (within : ℕ) (rest : List Token) → read_value (suc within) (Token.begin_object ∷ rest) ≡ parse_map object (read_members within rest)
unfolding value
object_value within rest = converted-object (members (value within) (length rest) rest)

-- ---- a value by its first token

pub at_string : (depth : ℕ) (s : List ℕ) (r : List Token) → read_value depth (Token.string s ∷ r) ≡ Some (string s, r)
at_string depth s r = ap (converted of_json) (value_is depth (Token.string s ∷ r))

pub at_boolean : (depth : ℕ) (b : Bool) (r : List Token) → read_value depth (Token.boolean b ∷ r) ≡ Some (boolean b, r)
at_boolean depth b r = ap (converted of_json) (value_is depth (Token.boolean b ∷ r))

pub at_null : (depth : ℕ) (r : List Token) → read_value depth (Token.null ∷ r) ≡ Some (null, r)
at_null depth r = ap (converted of_json) (value_is depth (Token.null ∷ r))

pub at_number : (depth : ℕ) (s : List ℕ) (r : List Token) (n : Num) → number_of s ≡ Some n → read_value depth (Token.number s ∷ r) ≡ Some (number n, r)
at_number depth s r n e = ap (converted of_json) (value_is depth (Token.number s ∷ r)) ∙ rw e refl

pub at_no_number : (depth : ℕ) (s : List ℕ) (r : List Token) → number_of s ≡ None → read_value depth (Token.number s ∷ r) ≡ None
at_no_number depth s r e = ap (converted of_json) (value_is depth (Token.number s ∷ r)) ∙ rw e refl

pub at_end : (depth : ℕ) → read_value depth [] ≡ None
at_end depth = ap (converted of_json) (value_is depth [])

pub too_deep_array : (r : List Token) → read_value 0 (Token.begin_array ∷ r) ≡ None
unfolding value
too_deep_array r = refl

pub too_deep_object : (r : List Token) → read_value 0 (Token.begin_object ∷ r) ≡ None
unfolding value
too_deep_object r = refl

abbrev Begun : ℕ → List Token → List Token → Start → Type 0
Begun depth ts mid start = Starts depth ts start mid

module _ (depth within : ℕ) (ts mid : List Token) (start : Start) (begun : Starts depth ts start mid) where
  pub opened_array : start ≡ Array within → read_value depth ts ≡ parse_map array (read_items within mid)
  opened_array e =
      let parts : (depth ≡ suc within) × (ts ≡ Token.begin_array ∷ mid) = subst (Begun depth ts mid) e begun in
      ap₂ read_value parts.0 parts.1 ∙ array_value within mid

  pub opened_object : start ≡ Object within → read_value depth ts ≡ parse_map object (read_members within mid)
  opened_object e =
      let parts : (depth ≡ suc within) × (ts ≡ Token.begin_object ∷ mid) = subst (Begun depth ts mid) e begun in
      ap₂ read_value parts.0 parts.1 ∙ object_value within mid

  pub array_refused : start ≡ Array within → read_items within mid ≡ None → read_value depth ts ≡ None
  array_refused e h = opened_array e ∙ ap (parse_map array) h

  pub object_refused : start ≡ Object within → read_members within mid ≡ None → read_value depth ts ≡ None
  object_refused e h = opened_object e ∙ ap (parse_map object) h

  pub passes_array : (rest : List Token) → start ≡ Array within → PassesItems within mid rest → Passes depth ts rest
  passes_array rest e r = (array r.0, opened_array e ∙ ap (parse_map array) r.1)

  pub passes_object : (rest : List Token) → start ≡ Object within → PassesMembers within mid rest → Passes depth ts rest
  passes_object rest e r = (object r.0, opened_object e ∙ ap (parse_map object) r.1)

  module _ {A : Type 0} (f : Data → A) (a : A) (rest : List Token) where
    pub passed_array : start ≡ Array within → PassesItems within mid rest → ((ds : Items) → f (array ds) ≡ a) → Reads f depth ts a rest
    passed_array e r same = record { found = array r.0; reads = opened_array e ∙ ap (parse_map array) r.1; is = same r.0 }

    pub passed_object : start ≡ Object within → PassesMembers within mid rest → ((ms : Members) → f (object ms) ≡ a) → Reads f depth ts a rest
    passed_object e r same = record { found = object r.0; reads = opened_object e ∙ ap (parse_map object) r.1; is = same r.0 }

    -- an array of which the form gives what it gives of the items, and the same of an object
    pub array_is : {B : Type 0} (g : Items → B) (b : B) (h : B → A) → start ≡ Array within → ReadsItems g within mid b rest → ((ds : Items) → f (array ds) ≡ h (g ds)) → h b ≡ a
        → Reads f depth ts a rest
    array_is g b h e r same gives =
        record { found = array r.items; reads = opened_array e ∙ ap (parse_map array) r.reads; is = same r.items ∙ ap h r.is ∙ gives }

    pub object_is : {B : Type 0} (g : Members → B) (b : B) (h : B → A) → start ≡ Object within → ReadsMembers g within mid b rest → ((ms : Members) → f (object ms) ≡ h (g ms)) → h b ≡ a
        → Reads f depth ts a rest
    object_is g b h e r same gives =
        record { found = object r.members; reads = opened_object e ∙ ap (parse_map object) r.reads; is = same r.members ∙ ap h r.is ∙ gives }

module _ {A : Type 0} (f : Data → A) (a : A) (depth : ℕ) (ts rest : List Token) (start : Start) (begun : Starts depth ts start rest) where
  pub number_is : (n : JsonNumber) → start ≡ Number n → f (number (num_of n)) ≡ a → Reads f depth ts a rest
  number_is n e is = record { found = number (num_of n); reads = subst (Begun depth ts rest) e begun; is = is }

  pub other_is : start ≡ Other → ((d : Data) → IsOther d → f d ≡ a) → Reads f depth ts a rest
  other_is e none =
      let r : (d : Data) × (read_value depth ts ≡ Some (d, rest)) × IsOther d = subst (Begun depth ts rest) e begun in
      record { found = r.0; reads = r.1; is = none r.0 r.2 }
