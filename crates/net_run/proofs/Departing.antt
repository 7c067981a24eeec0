-- What departs from a visit is in the list, and nothing else is.
use Rattle.std.proofs.Common.{◌≡◌, inl, inr, ℕ, ◌==◌, ◌||◌, Bool, true, false, if◌then◌else◌, List, [], ◌∷◌, map, Option, Some, None, option_and_then, refl, sym, subst, ◌∙◌, ap}
use Rattle.std.proofs.lemmas.Bool.{eqb-true}
use Rattle.cocoon_num.specs.Lists.{has_number}
use Rattle.cocoon_num.specs.Packets.{enter, Packet}
use Rattle.p4_ir.specs.P4Tree.{Program, program_layout, RowsFile}
use Rattle.p4_ir.specs.Switch as switch
use Rattle.p4_ir.specs.Switch.{copied, Departure, egress_of, ingress_of, members, sent_by, State, switch_go}
use Rattle.p4_run.specs.Visits.{after_ingress}
use Rattle.p4_run.specs.declared.visits.Next.{Next}
use Rattle.p4_run.specs.declared.visits.Next.TheVariants.{Drop, Port, Copies}
use Rattle.net_run.specs.Departures.{Departed, departing, put, ways, ways_after}
use Rattle.net_run.proofs.Among.{Among, among_map}

-- ---- the ways of a visit

first_or_later : (rid n : ℕ) (ns : List ℕ) (b : Bool) → (rid == n) ≡ b → (has_number rid ns ≡ true → Among rid ns) → (b || has_number rid ns) ≡ true → Among rid (n ∷ ns)
first_or_later rid n ns true e f g = inl (eqb-true rid n e)
first_or_later rid n ns false e f g = inr (f g)

listed : (rid : ℕ) (ns : List ℕ) → has_number rid ns ≡ true → Among rid ns
listed rid [] h = absurd (cc)
listed rid (n ∷ ns) h = first_or_later rid n ns (rid == n) refl (listed rid ns) h

abbrev after_verdicts : State → Bool → Bool → Next
after_verdicts s one two = if one then Port s.egress_port else if two then Copies s.group else Drop

by_one : (rows : RowsFile) (s : State) (one two : Bool) (d : ℕ × List ℕ) (x : Departure) → (if one then x else None) ≡ Some d → Among [] (ways_after rows (after_verdicts s one two))
by_one rows s true two d x h = inl refl
by_one rows s false two d x h = absurd (cc)

by_member : (rows : RowsFile) (s : State) (rid : ℕ) (has : Bool) (d : ℕ × List ℕ) (x : Departure) → has_number rid (members rows.groups s.group) ≡ has → (if has then x else None) ≡ Some d
    → Among (rid ∷ []) (map (λ r. r ∷ []) (members rows.groups s.group))
by_member rows s rid true d x e h = among_map (λ r. r ∷ []) rid (members rows.groups s.group) (listed rid (members rows.groups s.group) e)
by_member rows s rid false d x e h = absurd (cc)

by_two : (rows : RowsFile) (s : State) (rid : ℕ) (one two : Bool) (d : ℕ × List ℕ) (x : Departure) → (one ≡ true → two ≡ false)
    → (if two then (if has_number rid (members rows.groups s.group) then x else None) else None) ≡ Some d → Among (rid ∷ []) (ways_after rows (after_verdicts s one two))
by_two rows s rid true true d x k h = absurd (let e : true ≡ false = k refl in cc)
by_two rows s rid false true d x k h = by_member rows s rid (has_number rid (members rows.groups s.group)) d x refl h
by_two rows s rid one false d x k h = absurd (cc)

not_two : (v : ℕ) → (v == 1) ≡ true → (v == 2) ≡ false
not_two v h = let e : v ≡ 1 = eqb-true v 1 h in ap (λ n. n == 2) e

way_left : (p : Program) (rows : RowsFile) (payload rids : List ℕ) (d : ℕ × List ℕ) (o : Option State) → option_and_then (switch.after_ingress p rows payload rids) o ≡ Some d
    → Among rids (ways_after rows (after_ingress o))
way_left p rows payload rids d None h = absurd (cc)
way_left p rows payload [] d (Some s) h = by_one rows s (s.verdict == 1) (s.verdict == 2) d _ h
way_left p rows payload (rid ∷ []) d (Some s) h = by_two rows s rid (s.verdict == 1) (s.verdict == 2) d (option_and_then (sent_by p payload) (egress_of p rows rid s)) (not_two s.verdict) h
way_left p rows payload (rid ∷ other ∷ rids) d (Some s) h = absurd (cc)

way_entered : (p : Program) (rows : RowsFile) (port : ℕ) (rids : List ℕ) (d : ℕ × List ℕ) (o : Option (Packet × List ℕ))
    → option_and_then (λ entered. option_and_then (switch.after_ingress p rows entered.1 rids) (ingress_of p rows port entered.0)) o ≡ Some d
    → Among rids (ways_after rows (after_ingress (option_and_then (λ entered. ingress_of p rows port entered.0) o)))
way_entered p rows port rids d None h = absurd (cc)
way_entered p rows port rids d (Some x) h = way_left p rows x.1 rids d (ingress_of p rows port x.0) h

pub is_way : (p : Program) (rows : RowsFile) (tag port : ℕ) (bytes rids : List ℕ) (d : ℕ × List ℕ) → switch_go p rows tag port bytes rids ≡ Some d → Among rids (ways p rows port bytes)
is_way p rows tag port bytes rids d h = way_entered p rows port rids d (enter (program_layout p) bytes) h

-- ---- what departs

put_first : (way : List ℕ) (d : ℕ × List ℕ) (o : Departure) (rest : List Departed) → o ≡ Some d → Among (record { way = way; port = d.0; bytes = d.1 }) (put way o rest)
put_first way d None rest h = absurd (cc)
put_first way d (Some x) rest h = inl (λ i. record { way = way; port = (some_is x d h i).0; bytes = (some_is x d h i).1 })
  where
    some_is : (x d : ℕ × List ℕ) → ◌≡◌ {A = Departure} (Some x) (Some d) → d ≡ x
    some_is x d h = cc

put_later : (way : List ℕ) (o : Departure) (rest : List Departed) (x : Departed) → Among x rest → Among x (put way o rest)
put_later way None rest x h = h
put_later way (Some d) rest x h = inr h

pub departs : (visit : List ℕ → Departure) (ways : List (List ℕ)) (way : List ℕ) (d : ℕ × List ℕ) → Among way ways → visit way ≡ Some d
    → Among (record { way = way; port = d.0; bytes = d.1 }) (departing visit ways)
departs visit [] way d h e = absurd h
departs visit (w ∷ ws) way d (inl i) e =
    subst (λ v. Among (record { way = v; port = d.0; bytes = d.1 }) (put w (visit w) (departing visit ws))) (sym i) (put_first w d (visit w) (departing visit ws) (ap visit (sym i) ∙ e))
departs visit (w ∷ ws) way d (inr h) e = put_later w (visit w) (departing visit ws) _ (departs visit ws way d h e)

abbrev Gives : (List ℕ → Departure) → Departed → Type 0
Gives visit x = visit x.way ≡ Some (x.port, x.bytes)

put_gives : (visit : List ℕ → Departure) (way : List ℕ) (o : Departure) (rest : List Departed) (x : Departed) → visit way ≡ o → (Among x rest → Gives visit x) → Among x (put way o rest) → Gives visit x
put_gives visit way None rest x e f h = f h
put_gives visit way (Some d) rest x e f (inl i) = subst (Gives visit) (sym i) e
put_gives visit way (Some d) rest x e f (inr h) = f h

pub gives : (visit : List ℕ → Departure) (ways : List (List ℕ)) (x : Departed) → Among x (departing visit ways) → visit x.way ≡ Some (x.port, x.bytes)
gives visit [] x h = absurd h
gives visit (w ∷ ws) x h = put_gives visit w (visit w) (departing visit ws) x refl (gives visit ws x) h
