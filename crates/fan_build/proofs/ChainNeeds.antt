-- The effect of a change on the marks of an object, from these marks before and after it.
use Rattle.std.proofs.Common.{◌≡◌, ◌≢◌, ◌∙◌, ℕ, ◌+◌, ◌<◌, ◌≤◌, Bool, true, false, List, [], ◌∷◌, ◌++◌, Option, Some, None, get_or, length, refl, sym, ap, subst, arith, append-nil}
use Rattle.std.proofs.lemmas.Bool.{cond_both, false≢true}
use Rattle.std.proofs.lemmas.Bool.Decides.{nat_tests}
use Rattle.std.proofs.lemmas.List.Elements.{All-append, All-cons, All-filter, All-head, All-nil, All-tail}
use Rattle.std.proofs.lemmas.List.Folds.{list_any-append, list_any_at, list_any_none}
use Rattle.std.proofs.lemmas.Option.{IfSome_then}
use Rattle.std.specs.List.{list_any}
use Rattle.std.specs.Prelude.{All, IfSome, filter, nat_lt, not, ◌==◌, ◌&&◌, ◌||◌}
use Rattle.fan_bits.specs.declared.change.Change.{Change}
use Rattle.fan_bits.specs.declared.change.Change.TheVariants.{Put, Flush, Clear, DropGroup, DropObject}
use Rattle.fan_bits.specs.declared.mark.Mark.{Mark}
use Rattle.fan_bits.specs.Marks.{gone, listed, order_number, order_of, same_kind, same_mark, standing, stands, updated}
use Rattle.fan_bits.proofs.Updates.{put_mark_keeps, updated_keeps}
use Rattle.fan_lists.proofs.Filters.{filter_agree_on, filter_none}
use Rattle.fan_rows.specs.Costs.{altered, upto}
use Rattle.fan_build.specs.declared.effect.Effect.{Effect}
use Rattle.fan_build.specs.Edits.{added_effect, chain_effect, cleared_mark, edited, has_any, is_at, is_past, kept, no_effect, replaced_effect, stays}
use Rattle.fan_build.specs.Needs.{needed_on}
use Rattle.fan_build.specs.Steps.{IsConnector}
use Rattle.fan_build.proofs.ChainSteps.{rest_effect, rest_target}
use Rattle.fan_build.proofs.SameMarks.{same_mark_exact, same_mark_itself}

-- what the marks on an object before and after tell of the effect
abbrev pub told_effect : List Mark → List Mark → Effect
told_effect old new = record {
  altered = has_any (altered old new);
  left = has_any new;
  taken = needed_on old new;
  marks = length (gone old new);
}

-- effects with the same parts are one
pub same_effect : (a e b f : Bool) (c g d h : ℕ) → a ≡ e → b ≡ f → c ≡ g → d ≡ h
    → ◌≡◌ {A = Effect} (record { altered = a; left = b; taken = c; marks = d })
    (record { altered = e; left = f; taken = g; marks = h })
same_effect a e b f c g d h one two three four = cc

-- marks come behind an order
abbrev pub Behind : ℕ → List Mark → Type 0
Behind order marks = All (λ mark. order < order_of mark) marks

-- ---- marks that are gone

-- marks with other orders are not the same
same_apart : (x y : Mark) → order_of x ≢ order_of y → same_mark x y ≡ false
same_apart x y differs = by (same_mark x y) refl
  where
    by : (b : Bool) → same_mark x y ≡ b → same_mark x y ≡ false
    by true is = absurd (differs (ap order_of (same_mark_exact x y is)))
    by false is = is

not_in : (mark : Mark) (marks : List Mark) → Behind (order_of mark) marks
    → list_any (same_mark mark) marks ≡ false
not_in mark marks behind =
    list_any_none (same_mark mark) marks (λ k d within.
    same_apart mark (get_or marks k d) (λ same. absurd (omega (arith, behind k d within))))

-- a mark before others makes none of them stay or go
gone_cons : (order : ℕ) (y : Mark) (xs ys : List Mark) → order_of y ≤ order → Behind order xs
    → gone xs (y ∷ ys) ≡ gone xs ys
gone_cons order y xs ys before behind =
    filter_agree_on (λ x. not (list_any (same_mark x) (y ∷ ys))) (λ x. not (list_any (same_mark x) ys)) xs
    (λ k d within. let x = get_or xs k d in
    rw (same_apart x y (λ same. absurd (omega (arith, behind k d within)))) refl)

pub gone_self : (marks : List Mark) → gone marks marks ≡ []
gone_self marks =
    filter_none (λ mark. not (list_any (same_mark mark) marks)) marks (λ k d within.
    let mark = get_or marks k d in
    rw (list_any_at (same_mark mark) marks k d within (same_mark_itself mark)) refl)

-- nothing has an effect on the same marks
pub none_told : (marks : List Mark) → no_effect (has_any marks) ≡ told_effect marks marks
none_told marks =
    let A : altered marks marks ≡ [] = rw (gone_self marks) refl in
    same_effect _ _ _ _ _ _ _ _ (rw A refl) refl
    (rw A (sym (ap length (filter_none (upto []) marks (λ k d within. refl))))) (rw (gone_self marks) refl)

-- ---- one mark is added

added_told : (new : Option Mark) (marks : List Mark) → IfSome new (λ mark. Behind (order_of mark) marks)
    → added_effect new (has_any marks) ≡ told_effect marks (listed new ++ marks)
added_told None marks before = none_told marks
added_told (Some new) marks before =
    let out : list_any (same_mark new) marks ≡ false = not_in new marks before in
    let old : gone marks (new ∷ marks) ≡ [] =
    gone_cons (order_of new) new marks marks (omega arith) before ∙ gone_self marks in
    let came : gone (new ∷ marks) marks ≡ new ∷ [] = rw (out, gone_self marks) refl in
    let A : altered marks (new ∷ marks) ≡ new ∷ [] = rw (old, came) refl in
    let here : upto (new ∷ []) new ≡ true = grind (arith, nat_tests) in
    let rest : filter (upto (new ∷ [])) marks ≡ [] =
    filter_none (upto (new ∷ [])) marks (λ k d within.
    let behind = before k d within in grind (arith, nat_tests)) in
    let count : length (filter (upto (new ∷ [])) (new ∷ marks)) ≡ 1 = rw (here, rest) refl in
    same_effect _ _ _ _ _ _ _ _ (rw A refl) refl
    (sym (ap (λ l. length (filter (upto l) (new ∷ marks))) A ∙ count)) (rw old refl)

-- ---- a mark stays, is replaced or is removed, before others

-- marks that are gone come behind where all do
gone_behind : (order : ℕ) (xs ys : List Mark) → Behind order xs → Behind order (gone xs ys)
gone_behind order xs ys behind =
    All-filter (λ x. not (list_any (same_mark x) ys)) (λ x. order < order_of x) xs behind

altered_behind : (order : ℕ) (xs ys : List Mark) → Behind order xs → Behind order ys
    → Behind order (altered xs ys)
altered_behind order xs ys left right =
    All-append (λ x. order < order_of x) (gone xs ys) (gone ys xs) (gone_behind order xs ys left)
    (gone_behind order ys xs right)

-- a mark comes no later than one of some that come behind it
upto_first : (mark : Mark) (marks : List Mark) → has_any marks ≡ true → Behind (order_of mark) marks
    → upto marks mark ≡ true
upto_first mark [] some behind = absurd (false≢true some)
upto_first mark (x ∷ xs) some behind =
    let here = All-head (λ y. order_of mark < order_of y) x xs behind in
    let not_before : nat_lt (order_of x) (order_of mark) ≡ false = grind (arith, nat_tests) in
    rw not_before refl

no_marks : (marks : List Mark) → has_any marks ≡ false → marks ≡ []
no_marks [] none = refl
no_marks (mark ∷ marks) none = absurd (false≢true (sym none))

no_front : (xs ys : List Mark) → xs ++ ys ≡ [] → xs ≡ []
no_front [] ys none = refl
no_front (x ∷ xs) ys none = absurd cc

-- an altered mark before others counts for none of them
upto_cons : (order : ℕ) (y : Mark) (A xs : List Mark) → order_of y ≤ order → Behind order xs
    → filter (upto (y ∷ A)) xs ≡ filter (upto A) xs
upto_cons order y A xs before behind =
    filter_agree_on (upto (y ∷ A)) (upto A) xs (λ k d within.
    let x = get_or xs k d in
    let here = behind k d within in
    let later : nat_lt (order_of y) (order_of x) ≡ true = grind (arith, nat_tests) in
    rw later refl)

upto_among : (order : ℕ) (y : Mark) (A B xs : List Mark) → order_of y ≤ order → Behind order xs
    → filter (upto (A ++ y ∷ B)) xs ≡ filter (upto (A ++ B)) xs
upto_among order y A B xs before behind =
    filter_agree_on (upto (A ++ y ∷ B)) (upto (A ++ B)) xs (λ k d within.
    let x = get_or xs k d in
    let here = behind k d within in
    let later : nat_lt (order_of y) (order_of x) ≡ true = grind (arith, nat_tests) in
    let test : Mark → Bool = λ other. not (nat_lt (order_of other) (order_of x)) in
    list_any-append test A (y ∷ B) ∙ rw later (sym (list_any-append test A B)))

module _ (mark : Mark) (old new : List Mark) (behind : Behind (order_of mark) old)
    (after : Behind (order_of mark) new) where
  abbrev o : ℕ
  o = order_of mark

  abbrev A : List Mark
  A = altered old new

  -- the mark is removed
  removed : replaced_effect None false (told_effect old new) ≡ told_effect (mark ∷ old) new
  removed =
      let out : list_any (same_mark mark) new ≡ false = not_in mark new after in
      let came : gone new (mark ∷ old) ≡ gone new old = gone_cons o mark new old (omega arith) after in
      let B : altered (mark ∷ old) new ≡ mark ∷ A = rw (out, came) refl in
      let same = upto_cons o mark A new (omega arith) after in
      same_effect _ _ _ _ _ _ _ _ (rw B refl) refl (rw (B, same) (omega arith)) (rw out (omega arith))

  -- it stays
  stay : replaced_effect (Some mark) true (told_effect old new) ≡ told_effect (mark ∷ old) (mark ∷ new)
  stay =
      let itself = same_mark_itself mark in
      let left : gone (mark ∷ old) (mark ∷ new) ≡ gone old new =
      rw itself (gone_cons o mark old new (omega arith) behind) in
      let came : gone (mark ∷ new) (mark ∷ old) ≡ gone new old =
      rw itself (gone_cons o mark new old (omega arith) after) in
      let B : altered (mark ∷ old) (mark ∷ new) ≡ A = rw (left, came) refl in
      by (has_any A) refl B left
    where
      by : (some : Bool) → has_any A ≡ some → altered (mark ∷ old) (mark ∷ new) ≡ A
          → gone (mark ∷ old) (mark ∷ new) ≡ gone old new
          → replaced_effect (Some mark) true (told_effect old new) ≡ told_effect (mark ∷ old) (mark ∷ new)
      by true some B left =
          let here : upto A mark ≡ true = upto_first mark A some (altered_behind o old new behind after) in
          let count : length (filter (upto A) (mark ∷ new)) ≡ needed_on old new + 1 = rw here (omega arith) in
          rw some
          (same_effect _ _ _ _ _ _ _ _ (sym (ap has_any B ∙ some)) refl
          (sym (ap (λ l. length (filter (upto l) (mark ∷ new))) B ∙ count))
          (rw left (omega arith)))
      by false none B left =
          let empty : A ≡ [] = no_marks A none in
          let nothing : gone old new ≡ [] = no_front (gone old new) (gone new old) empty in
          rw none
          (same_effect _ _ _ _ _ _ _ _ (sym (ap has_any B ∙ none)) refl
          (sym (ap (λ a. length (filter (upto a) (mark ∷ new))) (B ∙ empty)
          ∙ ap length (filter_none (upto []) (mark ∷ new) (λ k d within. refl))))
          (sym (ap length (left ∙ nothing))))

  -- another one comes in its place
  replaced : (other : Mark) → order_of other ≡ order_of mark → same_mark other mark ≡ false
      → replaced_effect (Some other) false (told_effect old new) ≡ told_effect (mark ∷ old) (other ∷ new)
  replaced other same differs =
      let back : same_mark mark other ≡ false = by (same_mark mark other) refl in
      let out : list_any (same_mark mark) new ≡ false = not_in mark new after in
      let out_other : list_any (same_mark other) old ≡ false =
      not_in other old (subst (λ n. Behind n old) (sym same) behind) in
      let left : gone (mark ∷ old) (other ∷ new) ≡ mark ∷ gone old new =
      rw (back, out) (ap (λ more. mark ∷ more) (gone_cons o other old new (omega arith) behind)) in
      let came : gone (other ∷ new) (mark ∷ old) ≡ other ∷ gone new old =
      rw (differs, out_other) (ap (λ more. other ∷ more) (gone_cons o mark new old (omega arith) after)) in
      let B : altered (mark ∷ old) (other ∷ new) ≡ mark ∷ (gone old new ++ other ∷ gone new old) =
      rw (left, came) refl in
      let here : upto (mark ∷ (gone old new ++ other ∷ gone new old)) other ≡ true =
      (let not_before : nat_lt (order_of mark) (order_of other) ≡ false = grind (arith, nat_tests) in
      rw not_before refl) in
      let rest : filter (upto (mark ∷ (gone old new ++ other ∷ gone new old))) new ≡ filter (upto A) new =
      upto_cons o mark (gone old new ++ other ∷ gone new old) new (omega arith) after
      ∙ upto_among o other (gone old new) (gone new old) new (omega arith) after in
      let all = mark ∷ (gone old new ++ other ∷ gone new old) in
      let count : length (filter (upto all) (other ∷ new)) ≡ needed_on old new + 1 =
      rw here (omega (arith, ap length rest)) in
      same_effect _ _ _ _ _ _ _ _ (rw B refl) refl
      (sym (ap (λ l. length (filter (upto l) (other ∷ new))) B ∙ count))
      (rw left (omega arith))
    where
      by : (b : Bool) → same_mark mark other ≡ b → same_mark mark other ≡ false
      by false is = is
      by true is =
          absurd (false≢true (sym differs ∙ ap (λ m. same_mark m mark) (sym (same_mark_exact mark other is))
          ∙ same_mark_itself mark))

  -- what is left of it has its order
  pub step_told : (left : Option Mark) → IfSome left (λ other. order_of other ≡ order_of mark)
      → replaced_effect left (stays left mark) (told_effect old new)
      ≡ told_effect (mark ∷ old) (listed left ++ new)
  step_told None order = removed
  step_told (Some other) order = by (same_mark other mark) refl
    where
      by : (b : Bool) → same_mark other mark ≡ b
          → replaced_effect (Some other) (same_mark other mark) (told_effect old new)
          ≡ told_effect (mark ∷ old) (other ∷ new)
      by true is =
          let one : other ≡ mark = same_mark_exact other mark is in
          subst (λ b. replaced_effect (Some other) b (told_effect old new)
          ≡ told_effect (mark ∷ old) (other ∷ new)) (sym is)
          (subst (λ m. replaced_effect (Some m) true (told_effect old new)
          ≡ told_effect (mark ∷ old) (m ∷ new)) (sym one) stay)
      by false is =
          subst (λ b. replaced_effect (Some other) b (told_effect old new)
          ≡ told_effect (mark ∷ old) (other ∷ new)) (sym is) (replaced other order is)

-- ---- the whole chain

-- what is left of a mark has its order
pub kept_order : (change : Change) (mark : Mark)
    → IfSome (kept change mark) (λ other. order_of other ≡ order_of mark)
unfolding cleared_mark
kept_order (Put group class words object) mark =
    cond_both (order_of mark == order_number class group)
    (updated (Some mark) (Put group class words object)) (Some mark)
    (λ left. IfSome left (λ other. order_of other ≡ order_of mark))
    (λ at. IfSome_then (updated (Some mark) (Put group class words object))
    (updated_keeps mark (Put group class words object))
    (λ other keeps. rw (keeps.class, keeps.group) refl)) (λ apart. refl)
kept_order (Flush group kind) mark =
    cond_both (mark.group == group && same_kind mark.kind kind) None (Some mark)
    (λ left. IfSome left (λ other. order_of other ≡ order_of mark)) (λ is. tt) (λ is. refl)
kept_order (Clear object) mark =
    cond_both (not (mark.object == object) || mark.survives) (Some mark) (standing (record mark { ignored = 0 }))
    (λ left. IfSome left (λ other. order_of other ≡ order_of mark)) (λ is. refl)
    (λ is. cond_both (stands (record mark { ignored = 0 })) (Some (record mark { ignored = 0 })) None
    (λ left. IfSome left (λ other. order_of other ≡ order_of mark)) (λ whole. refl) (λ fails. tt))
kept_order (DropGroup group) mark =
    cond_both (mark.group == group) None (Some mark)
    (λ left. IfSome left (λ other. order_of other ≡ order_of mark)) (λ is. tt) (λ is. refl)
kept_order (DropObject object) mark =
    cond_both (mark.object == object) None (Some mark)
    (λ left. IfSome left (λ other. order_of other ≡ order_of mark)) (λ is. tt) (λ is. refl)

-- a new mark has the order of the Put, and there is none else
abbrev IsPutOrder : Change → Mark → Type 0
IsPutOrder (Put group class words object) mark = order_of mark ≡ order_number class group
IsPutOrder _ mark = ⊥

new_order : (change : Change) → IfSome (updated None change) (IsPutOrder change)
unfolding updated
new_order (Put group class words object) =
    IfSome_then (updated None (Put group class words object))
    (put_mark_keeps None group class words object) (λ mark keeps. rw (keeps.class, keeps.group) refl)
new_order (Flush group kind) = tt
new_order (Clear object) = tt
new_order (DropGroup group) = tt
new_order (DropObject object) = tt

-- an order is before the place of a Put
abbrev IsBeforePut : Change → ℕ → Type 0
IsBeforePut (Put group class words object) order = order < order_number class group
IsBeforePut _ order = Unit {0}

new_behind : (change : Change) (order : ℕ) → IsBeforePut change order
    → Behind order (listed (updated None change))
new_behind change order before = by change before (updated None change) (new_order change)
  where
    by : (change : Change) → IsBeforePut change order → (new : Option Mark) → IfSome new (IsPutOrder change)
        → Behind order (listed new)
    by change before None is = All-nil (λ mark. order < order_of mark)
    by (Put group class words object) before (Some mark) is =
        All-cons (λ mark. order < order_of mark) mark [] (omega (arith, is)) (All-nil (λ mark. order < order_of mark))
    by (Flush group kind) before (Some mark) is = absurd is
    by (Clear object) before (Some mark) is = absurd is
    by (DropGroup group) before (Some mark) is = absurd is
    by (DropObject object) before (Some mark) is = absurd is

-- behind an order come the marks after a change, if those before it and the place of a Put do
behind_edited : (change : Change) (order : ℕ) (marks : List Mark) → Behind order marks
    → IsBeforePut change order → Behind order (edited change marks)
behind_edited change order [] behind before = new_behind change order before
behind_edited change order (mark ∷ marks) behind before =
    let P : Mark → Type 0 = λ one. order < order_of one in
    let here = All-head P mark marks behind in
    let rest = All-tail P mark marks behind in
    cond_both (is_past change mark) (listed (updated None change) ++ mark ∷ marks)
    (listed (kept change mark) ++ rest_target change mark marks) (Behind order)
    (λ past. All-append P (listed (updated None change)) (mark ∷ marks) (new_behind change order before) behind)
    (λ on. All-append P (listed (kept change mark)) (rest_target change mark marks)
    (left (kept change mark) (kept_order change mark) here)
    (cond_both (is_at change mark) marks (edited change marks) (Behind order) (λ at. rest)
    (λ apart. behind_edited change order marks rest before)))
  where
    left : (some : Option Mark) → IfSome some (λ other. order_of other ≡ order_of mark)
        → order < order_of mark → Behind order (listed some)
    left None same here = All-nil (λ one. order < order_of one)
    left (Some other) same here =
        All-cons (λ one. order < order_of one) other [] (omega (arith, same)) (All-nil (λ one. order < order_of one))

-- a mark that is not past the place of a Put, and not at it, is before it
before_put : (change : Change) (mark : Mark) → is_past change mark ≡ false → is_at change mark ≡ false
    → IsBeforePut change (order_of mark)
before_put (Put group class words object) mark on apart = grind (arith, nat_tests, on, apart)
before_put (Flush group kind) mark on apart = tt
before_put (Clear object) mark on apart = tt
before_put (DropGroup group) mark on apart = tt
before_put (DropObject object) mark on apart = tt

-- a new mark comes before a mark past its place
new_before : (change : Change) (mark : Mark) (marks : List Mark) → is_past change mark ≡ true
    → Behind (order_of mark) marks
    → IfSome (updated None change) (λ new. Behind (order_of new) (mark ∷ marks))
new_before change mark marks past behind =
    IfSome_then (updated None change) (new_order change) (by change past)
  where
    by : (change : Change) → is_past change mark ≡ true → (new : Mark) → IsPutOrder change new
        → Behind (order_of new) (mark ∷ marks)
    by (Put group class words object) past new is =
        let before : order_of new < order_of mark = grind (arith, nat_tests, past, is) in
        All-cons (λ one. order_of new < order_of one) mark marks before
        (λ k d within. omega (arith, before, behind k d within))
    by (Flush group kind) past new is = absurd is
    by (Clear object) past new is = absurd is
    by (DropGroup group) past new is = absurd is
    by (DropObject object) past new is = absurd is

-- nothing comes before the marks of no chain
nothing_before : (new : Option Mark) → IfSome new (λ mark. Behind (order_of mark) [])
nothing_before None = tt
nothing_before (Some mark) = All-nil (λ one. order_of mark < order_of one)

rest_told : (change : Change) (mark : Mark) (marks : List Mark)
    → chain_effect change marks ≡ told_effect marks (edited change marks) → (at : Bool)
    → is_at change mark ≡ at
    → rest_effect change mark marks ≡ told_effect marks (rest_target change mark marks)
rest_told change mark marks told true is = rw is (none_told marks)
rest_told change mark marks told false is = rw is told

rest_behind : (change : Change) (mark : Mark) (marks : List Mark) → is_past change mark ≡ false
    → Behind (order_of mark) marks → (at : Bool) → is_at change mark ≡ at
    → Behind (order_of mark) (rest_target change mark marks)
rest_behind change mark marks on behind true is = rw is behind
rest_behind change mark marks on behind false is =
    rw is (behind_edited change (order_of mark) marks behind (before_put change mark on is))

chain_step : (change : Change) (mark : Mark) (marks : List Mark) → Behind (order_of mark) marks
    → chain_effect change marks ≡ told_effect marks (edited change marks) → (past : Bool)
    → is_past change mark ≡ past
    → chain_effect change (mark ∷ marks) ≡ told_effect (mark ∷ marks) (edited change (mark ∷ marks))
chain_step change mark marks behind told true is =
    let added = added_told (updated None change) (mark ∷ marks) (new_before change mark marks is behind) in
    let target : edited change (mark ∷ marks) ≡ listed (updated None change) ++ mark ∷ marks = rw is refl in
    let effect : chain_effect change (mark ∷ marks) ≡ added_effect (updated None change) true = rw is refl in
    effect ∙ added ∙ ap (told_effect (mark ∷ marks)) (sym target)
chain_step change mark marks behind told false is =
    let rest = rest_told change mark marks told (is_at change mark) refl in
    let after = rest_behind change mark marks is behind (is_at change mark) refl in
    let step = step_told mark marks (rest_target change mark marks) behind after (kept change mark)
    (kept_order change mark) in
    let target : edited change (mark ∷ marks) ≡ listed (kept change mark) ++ rest_target change mark marks =
    rw is refl in
    let effect : chain_effect change (mark ∷ marks)
    ≡ replaced_effect (kept change mark) (stays (kept change mark) mark) (rest_effect change mark marks) =
    rw is refl in
    effect ∙ ap (λ e. replaced_effect (kept change mark) (stays (kept change mark) mark) e) rest ∙ step
    ∙ ap (told_effect (mark ∷ marks)) (sym target)

-- the effect on a chain is the one that its marks before and after tell
pub chain_told : (change : Change) (marks : List Mark) → IsConnector marks
    → chain_effect change marks ≡ told_effect marks (edited change marks)
chain_told change [] connector =
    added_told (updated None change) [] (nothing_before (updated None change))
    ∙ ap (told_effect []) (append-nil (listed (updated None change)))
chain_told change (mark ∷ marks) connector =
    chain_step change mark marks connector.1 (chain_told change marks connector.2) (is_past change mark) refl
