-- What becomes of a packet: the deliveries and the copies that travel, among its ends, are those that the network makes.
use Rattle.std.proofs.Common.{◌≡◌, inl, inr, ℕ, suc, true, List, [], ◌∷◌, ◌++◌, length, map, refl, sym, subst, ap, ◌∙◌, arith}
use Rattle.std.proofs.lemmas.Bool.{and_from}
use Rattle.std.proofs.lemmas.List.{append-nil}
use Rattle.cocoon_num.specs.Lists.{each}
use Rattle.net_run.specs.Nets.{net_in}
use Rattle.net_run.specs.Switches.{switch_in}
use Rattle.net_run.specs.declared.net.Net.{Net}
use Rattle.net_run.specs.declared.switch.LoadedSwitch.{LoadedSwitch}
use Rattle.p4_ir.specs.Loading.{rows_load}
use Rattle.p4_ir.specs.NetTree.{LinkEnd, to_switch, to_host, NetData, SwitchFiles}
use Rattle.p4_run.specs.Running.{program_in, rows_in}
use Rattle.net_run.specs.Ascending.{Ahead, AheadOfAll, Ascending}
use Rattle.net_run.specs.Deliveries.{count_at, deliver_at, deliveries, delivered, standing, travelling}
use Rattle.net_run.specs.Delivering.{delivery_of}
use Rattle.net_run.specs.Ends.{End, ends}
use Rattle.net_run.specs.Following.{IsUnderWay}
use Rattle.net_run.specs.Outcomes.{AreDelivered, AreTravelling, Delivery}
use Rattle.net_run.specs.UnderWay.{stack_ends}
use Rattle.net_run.specs.declared.following.Walk.{Walk}
use Rattle.net_run.proofs.Among.{Among, among, contains}
use Rattle.net_run.proofs.Leading.{delivery_goes, end_travels, going_delivered, traveller_ends}
use Rattle.net_run.proofs.Rising.{AllLoad, choices_of, EndsAscend, ends_ascend}

-- ---- a network that is loaded

each_loads : (ss : List LoadedSwitch) → each (λ (f : SwitchFiles). rows_load f.program f.rows) (map switch_in ss) ≡ true
each_loads [] = refl
each_loads (s ∷ ss) = and_from (rows_load (program_in s.loaded) (rows_in s.loaded)) _ s.loaded.loads (each_loads ss)

pub all_load : (net : Net) → AllLoad (net_in net)
all_load net = each_loads net.switches.items

-- ---- what is delivered

ahead_of_delivered : (cs : List ℕ) (es : List End) → AheadOfAll cs (choices_of es) → AheadOfAll cs (map (λ (d : Delivery). d.choices) (delivered es))
ahead_of_delivered cs [] a = tt
ahead_of_delivered cs (e ∷ es) a = at e.at e (delivered es) a.0 (ahead_of_delivered cs es a.1)
  where
    at : (l : LinkEnd) (e : End) (ds : List Delivery) → Ahead cs e.choices → AheadOfAll cs (map (λ (d : Delivery). d.choices) ds)
        → AheadOfAll cs (map (λ (d : Delivery). d.choices) (deliver_at l e ds))
    at (to_host h) e ds a b = (a, b)
    at (to_switch s p) e ds a b = b

delivered_ascend : (es : List End) → EndsAscend es → Ascending (map (λ (d : Delivery). d.choices) (delivered es))
delivered_ascend [] a = tt
delivered_ascend (e ∷ es) a = at e.at e (delivered es) (ahead_of_delivered e.choices es a.0) (delivered_ascend es a.1)
  where
    at : (l : LinkEnd) (e : End) (ds : List Delivery) → AheadOfAll e.choices (map (λ (d : Delivery). d.choices) ds) → Ascending (map (λ (d : Delivery). d.choices) ds)
        → Ascending (map (λ (d : Delivery). d.choices) (deliver_at l e ds))
    at (to_host h) e ds a b = (a, b)
    at (to_switch s p) e ds a b = b

deliveries_are : (net : NetData) → AllLoad net → (a : ℕ) (bytes : List ℕ) (n : ℕ) → AreDelivered net a bytes n (deliveries net a bytes n)
deliveries_are net loads a bytes n = record {
  exact = λ d. (λ h. delivery_goes net a bytes n d (among _ _ h), λ v. contains _ _ (going_delivered net a bytes d.choices n d.host d.bytes v));
  ascending = delivered_ascend (ends net a bytes n) (ends_ascend net loads a bytes n);
}

-- ---- what travels

-- the choices of an end before others, where it is before a switch
abbrev list_at : LinkEnd → End → List (List ℕ) → List (List ℕ)
list_at (to_host h) e css = css
list_at (to_switch s p) e css = e.choices ∷ css

abbrev lists_of : List End → List (List ℕ)
lists_of [] = []
lists_of (e ∷ es) = list_at e.at e (lists_of es)

lists_counted : (es : List End) → standing es ≡ length (lists_of es)
lists_counted [] = refl
lists_counted (e ∷ es) = at e.at (lists_counted es)
  where
    at : (l : LinkEnd) → standing es ≡ length (lists_of es) → count_at l (standing es) ≡ length (list_at l e (lists_of es))
    at (to_host h) c = c
    at (to_switch s p) c = ap suc c

ahead_of_lists : (cs : List ℕ) (es : List End) → AheadOfAll cs (choices_of es) → AheadOfAll cs (lists_of es)
ahead_of_lists cs [] a = tt
ahead_of_lists cs (e ∷ es) a = at e.at (ahead_of_lists cs es a.1)
  where
    at : (l : LinkEnd) → AheadOfAll cs (lists_of es) → AheadOfAll cs (list_at l e (lists_of es))
    at (to_host h) b = b
    at (to_switch s p) b = (a.0, b)

lists_ascend : (es : List End) → EndsAscend es → Ascending (lists_of es)
lists_ascend [] a = tt
lists_ascend (e ∷ es) a = at e.at (ahead_of_lists e.choices es a.0) (lists_ascend es a.1)
  where
    at : (l : LinkEnd) → AheadOfAll e.choices (lists_of es) → Ascending (lists_of es) → Ascending (list_at l e (lists_of es))
    at (to_host h) b c = c
    at (to_switch s p) b c = (b, c)

-- an end before a switch with these choices
abbrev Stands : List End → List ℕ → Type 0
Stands es cs = (s p : ℕ) × (left : List ℕ) × Among (record { at = to_switch s p; choices = cs; bytes = left }) es

stands_later : (e : End) (es : List End) (cs : List ℕ) → Stands es cs → Stands (e ∷ es) cs
stands_later e es cs (s, p, left, h) = (s, p, left, inr h)

first_stands : (l : LinkEnd) (x : End) (es : List End) (cs : List ℕ) → x.at ≡ l → (Among cs (lists_of es) → Stands es cs) → Among cs (list_at l x (lists_of es)) → Stands (x ∷ es) cs
first_stands (to_host b) x es cs i f h = stands_later x es cs (f h)
first_stands (to_switch s p) x es cs i f (inl c) = (s, p, x.bytes, inl (λ k. record { at = sym i k; choices = c k; bytes = x.bytes }))
first_stands (to_switch s p) x es cs i f (inr h) = stands_later x es cs (f h)

list_stands : (es : List End) (cs : List ℕ) → Among cs (lists_of es) → Stands es cs
list_stands [] cs h = absurd h
list_stands (e ∷ es) cs h = first_stands e.at e es cs refl (list_stands es cs) h

later : (l : LinkEnd) (e : End) (css : List (List ℕ)) (cs : List ℕ) → Among cs css → Among cs (list_at l e css)
later (to_host h) e css cs i = i
later (to_switch s p) e css cs i = inr i

end_listed : (es : List End) (s p : ℕ) (cs left : List ℕ) → Among (record { at = to_switch s p; choices = cs; bytes = left }) es → Among cs (lists_of es)
end_listed [] s p cs left h = absurd h
end_listed (e ∷ es) s p cs left (inl i) = subst (λ (x : End). Among cs (list_at x.at x (lists_of es))) i (inl refl)
end_listed (e ∷ es) s p cs left (inr h) = later e.at e (lists_of es) cs (end_listed es s p cs left h)

travelling_are : (net : NetData) → AllLoad net → (a : ℕ) (bytes : List ℕ) (n : ℕ) → AreTravelling net a bytes n (travelling net a bytes n)
travelling_are net loads a bytes n =
    let es = ends net a bytes n in record {
      lists = lists_of es;
      counted = lists_counted es;
      exact = λ cs. (
        λ h. (let r = list_stands es cs (among _ _ h) in (r.0, r.1, r.2, end_travels net a bytes n r.0 r.1 cs r.2 r.3)),
        λ v. contains _ _ (end_listed es v.0 v.1 cs v.2 (traveller_ends net a bytes n v.0 v.1 cs v.2 v.3)),
      );
      ascending = lists_ascend es (ends_ascend net loads a bytes n);
    }

-- ---- all copies followed

-- where no copy is left on the stack, what was delivered is all
pub all_delivered : (net : Net) (a : ℕ) (bytes : List ℕ) (n : ℕ) (w : Walk) → IsUnderWay net a bytes n w → w.stack.items ≡ []
    → AreDelivered (net_in net) a bytes n (map delivery_of w.delivered.items)
all_delivered net a bytes n w u none =
    let ds = map delivery_of w.delivered.items in
    let all : ds ≡ deliveries (net_in net) a bytes n = sym (append-nil ds) ∙ sym (ap (λ cs. ds ++ delivered (stack_ends (net_in net) cs)) none) ∙ u.delivered in
    subst (AreDelivered (net_in net) a bytes n) (sym all) (deliveries_are (net_in net) (all_load net) a bytes n)

pub all_travelling : (net : Net) (a : ℕ) (bytes : List ℕ) (n : ℕ) (w : Walk) → IsUnderWay net a bytes n w → w.stack.items ≡ [] → AreTravelling (net_in net) a bytes n w.travelling
all_travelling net a bytes n w u none =
    let before = ap (λ cs. standing (stack_ends (net_in net) cs)) none in
    let all : w.travelling ≡ travelling (net_in net) a bytes n = (let t = u.travelling in omega (arith, before, t)) in
    subst (AreTravelling (net_in net) a bytes n) (sym all) (travelling_are (net_in net) (all_load net) a bytes n)
