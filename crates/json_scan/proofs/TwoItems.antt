-- The items of an array, one and another.
use Rattle.std.proofs.Common.{◌≡◌, ℕ, List, Option, Some, None, option_map, refl, sym, ap, ap₂, ◌∙◌}
use Rattle.json.specs.Token.{Token}
use Rattle.json.specs.Json.{parse_map, after_end_array}
use Rattle.serde_json.specs.Data.{Data, Items, no_items, item}
use Rattle.json_scan.specs.Pairs.{last_of, pair_of}
use Rattle.json_scan.specs.Scanning.{read_value, read_items, PassesItems, Reads, ReadsItems}
use Rattle.json_scan.proofs.Parts.{no_more_items, one_more_item, item_refused}

module _ (depth : ℕ) (ts mid rest : List Token) (going : after_end_array ts ≡ None) where
  pub two_read : {A B : Type 0} (f : Data → Option A) (g : Data → Option B) (a : Option A) (b : Option (Option B)) (w : Option (Option A × Option B)) → Reads f depth ts a mid → ReadsItems (last_of g) depth mid b rest
      → option_map (λ x. (a, x)) b ≡ w → ReadsItems (pair_of f g) depth ts w rest
  two_read f g a b w r s h = record {
    items = item r.found s.items;
    reads = one_more_item depth ts mid r.found going r.reads ∙ ap (parse_map (item r.found)) s.reads;
    is = ap₂ (λ x y. option_map (λ z. (x, z)) y) r.is s.is ∙ h;
  }

  pub one_read : {B : Type 0} (g : Data → Option B) (b : Option B) → Reads g depth ts b mid → after_end_array mid ≡ Some rest → ReadsItems (last_of g) depth ts (Some b) rest
  one_read g b r over = record {
    items = item r.found no_items;
    reads = one_more_item depth ts mid r.found going r.reads ∙ ap (parse_map (item r.found)) (no_more_items depth mid rest over);
    is = ap Some r.is;
  }

abbrev last_in : {B : Type 0} → (Data → Option B) → Data → Option (Items × List Token) → Option (Option B)
last_in g d None = None
last_in g d (Some q) = last_of g (item d q.0)

module _ {B : Type 0} (g : Data → Option B) (d : Data) (depth : ℕ) where
  after_one : (e : Data) (o : Option (Items × List Token)) → last_in g d (parse_map (item e) o) ≡ None
  after_one e None = refl
  after_one e (Some q) = refl

  -- a bracket does not come next: then this item is not the last
  no_last_by : (ts : List Token) → after_end_array ts ≡ None → (o : Option (Data × List Token)) → read_value depth ts ≡ o → last_in g d (read_items depth ts) ≡ None
  no_last_by ts going None e = ap (last_in g d) (item_refused depth ts going e)
  no_last_by ts going (Some q) e = ap (last_in g d) (one_more_item depth ts q.1 q.0 going e) ∙ after_one q.0 (read_items depth q.1)

  pub no_last : (ts r : List Token) (ds : Items) → after_end_array ts ≡ None → read_items depth ts ≡ Some (ds, r) → last_of g (item d ds) ≡ None
  no_last ts r ds going e = ap (last_in g d) (sym e) ∙ no_last_by ts going (read_value depth ts) refl

pub more_read : {B : Type 0} (g : Data → Option B) (b : Option B) (w : Option (Option B)) (depth : ℕ) (ts mid rest : List Token) → after_end_array ts ≡ None → Reads g depth ts b mid → after_end_array mid ≡ None
    → PassesItems depth mid rest → None ≡ w → ReadsItems (last_of g) depth ts w rest
more_read g b w depth ts mid rest going r more s h = record {
  items = item r.found s.0;
  reads = one_more_item depth ts mid r.found going r.reads ∙ ap (parse_map (item r.found)) s.1;
  is = no_last g r.found depth mid rest s.0 more s.1 ∙ h;
}
