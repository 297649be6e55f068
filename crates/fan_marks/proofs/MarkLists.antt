-- A list of marks stays one when another mark, or none, comes to a key.
use Rattle.std.proofs.Common.{◌≡◌, false, List, [], ◌∷◌, ◌++◌, Option, Some, None, get_or, ap, sym, refl}
use Rattle.std.specs.Prelude.{All, IfSome}
use Rattle.std.proofs.lemmas.List.Elements.{All-append, All-cons, All-filter, All-nil, filter_passes}
use Rattle.fan_bits.specs.declared.mark.Mark.{Mark}
use Rattle.fan_bits.specs.Marks.{IsMark, IsMarkList, is_before, is_behind, listed}
use Rattle.fan_bits.proofs.MarkLists.{Agree, AgreesWith, IsAt, Rises-put, listed_rises}
use Rattle.fan_marks.specs.declared.keys.ObjectKey.{ObjectKey}
use Rattle.fan_marks.specs.Keys.{before, behind, has_object_key, object_key, replaced}
use Rattle.fan_marks.specs.Stored.{IsStorable}
use Rattle.fan_marks.proofs.Replaced.{back_apart, front_apart}

module _ (key : ObjectKey) (marks : List Mark) where
  abbrev Here : Mark → Type 0
  Here mark = IsAt key.object key.order.0 mark

  at : (mark : Mark) → object_key mark ≡ key → Here mark
  at mark own = (ap (λ (key : ObjectKey). key.object) own, ap (λ (key : ObjectKey). key.order.0) own)

  one : (P : Mark → Type 0) (mark : Mark) → P mark → All P (mark ∷ [])
  one P mark is = All-cons P mark [] is (All-nil P)

  -- what holds of all marks without the key and of the new one
  pub All-beside : (P : Mark → Type 0) (new : Option Mark) → All (λ mark. has_object_key key mark ≡ false
      → P mark) marks
      → All P (listed new) → All P (replaced marks key new)
  All-beside P new old added =
      let Q : Mark → Type 0 = λ mark. has_object_key key mark ≡ false → P mark in
      let front = is_before key.object key.order.0 in
      let back = is_behind key.object key.order.0 in
      All-append P (before key marks ++ listed new) (behind key marks)
      (All-append P (before key marks) (listed new)
      (λ k d within. All-filter front Q marks old k d within
      (front_apart key (get_or (before key marks) k d) (filter_passes front marks k d within))) added)
      (λ k d within. All-filter back Q marks old k d within
      (back_apart key (get_or (behind key marks) k d) (filter_passes back marks k d within)))

  -- what holds of all marks and of the new one
  pub All-replaced : (P : Mark → Type 0) (new : Option Mark) → All P marks → All P (listed new)
      → All P (replaced marks key new)
  All-replaced P new old added = All-beside P new (λ k d within apart. old k d within) added

  -- the marks with a mark, or none, at a key are a list of marks
  pub IsMarkList-replaced : (new : Option Mark) → IsMarkList marks
      → IfSome new (λ mark. IsStorable marks mark × (object_key mark ≡ key))
      → IsMarkList (replaced marks key new)
  IsMarkList-replaced None list fits = record {
    each = All-replaced IsMark None list.each (All-nil IsMark);
    rises = Rises-put key.object key.order.0 marks [] list.rises tt (All-nil Here);
    classes = All-replaced (AgreesWith (replaced marks key None)) None
        (λ k d within. let P = Agree (get_or marks k d) in
        All-replaced P None (list.classes k d within) (All-nil P))
        (All-nil (AgreesWith (replaced marks key None)));
  }
  IsMarkList-replaced (Some new) list fits =
      let all = replaced marks key (Some new) in
      let agrees : AgreesWith all new = All-replaced (Agree new) (Some new)
      (λ k d within same. sym (fits.0.agrees k d within (sym same))) (one (Agree new) new (λ same. refl)) in
      record {
        each = All-replaced IsMark (Some new) list.each (one IsMark new fits.0.is);
        rises = Rises-put key.object key.order.0 marks (new ∷ []) list.rises (listed_rises (Some new))
            (one Here new (at new fits.1));
        classes = All-replaced (AgreesWith all) (Some new)
            (λ k d within. let P = Agree (get_or marks k d) in
            All-replaced P (Some new) (list.classes k d within) (one P new (fits.0.agrees k d within)))
            (one (AgreesWith all) new agrees);
      }
