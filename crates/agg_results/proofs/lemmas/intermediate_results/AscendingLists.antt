-- Two ascending lists of entries, merged entry by entry.
use Rattle.std.proofs.Common.{◌≡◌, ◌≤◌, ◌⊎◌, inl, inr, [], ◌∷◌, ◌++◌, refl, sym, ◌∙◌, subst, arith}
use Rattle.std.proofs.Common.{append_assoc, Bool, true, false, Ordering, Less, Equal, Greater}
use Rattle.std.specs.Cmp.{IsTotalOrder}
use Rattle.std.proofs.lemmas.Bool.{false≢true}
use Rattle.std.specs.List.Sorted.{IsStrictlySortedBy}
use Rattle.std.specs.Map.{keys_of}
use Rattle.std.proofs.lemmas.List.{append-nil}
use Rattle.std.proofs.lemmas.Map.Keys.{sorted_tail}
use Rattle.agg_values.specs.Tuple.{KeyTuple}
use Rattle.agg_results.specs.metric_results.Merges.{Merges}
use Rattle.agg_results.specs.intermediate_results.Intermediate.{Entries, TupleEntry}
use Rattle.agg_results.specs.intermediate_results.Merging.{ByOrder, JoinEntries, SomeTied}
use Rattle.agg_results.specs.intermediate_results.Outcome.{BelowDiffer, DoneUnless, EntriesPass}
use Rattle.agg_results.specs.declared.intermediate_results as intermediate
use intermediate.entry.IntermediateTermBucketEntry.{IntermediateTermBucketEntry}
use Rattle.agg_results.proofs.lemmas.intermediate_results.JoinedEntries.{join-nothing_right}
use Rattle.agg_results.proofs.lemmas.intermediate_results.JoinedEntries.{join-nothing_left}
use Rattle.agg_results.proofs.lemmas.intermediate_results.Levels.{entries_levels}
use Rattle.agg_results.proofs.lemmas.intermediate_results.TiedEntries.{more-both, more-left}
use Rattle.agg_results.proofs.lemmas.intermediate_results.TiedEntries.{more-right, none-tied}
use Rattle.agg_results.proofs.lemmas.intermediate_results.TiedEntries.{tied-equal, tied-first}
use Rattle.agg_results.proofs.lemmas.intermediate_results.TiedEntries.{tied-greater, tied-less}

abbrev Entry : Type 0
Entry = IntermediateTermBucketEntry

-- of two lists that are one, the first entries and the others are
pub heads : (e g : TupleEntry) (es gs : Entries) → e ∷ es ≡ g ∷ gs → (e ≡ g) × (es ≡ gs)
heads e g es gs same = (cc, cc)

-- what was moved of two lists, and what is left of them
pub record Underway (R : KeyTuple → KeyTuple → Ordering) (first other_first : Entries) (was : Bool)
    (left right whole : Entries) (now : Bool) : Type 0 where
  pub ascending : IsStrictlySortedBy R (keys_of left)
  pub other_ascending : IsStrictlySortedBy R (keys_of right)
  pub depth : entries_levels right ≤ entries_levels other_first
  pub joins : (q : Bool) → (now ≡ true → q ≡ true) → (rest : Entries)
      → JoinEntries R (DoneUnless q) left right rest
      → JoinEntries R (DoneUnless q) first other_first (whole ++ rest)
  pub differ : SomeTied R BelowDiffer first other_first → SomeTied R BelowDiffer left right
  pub differed : SomeTied R BelowDiffer left right → SomeTied R BelowDiffer first other_first
  pub pass : now ≡ false → SomeTied R EntriesPass first other_first
      → SomeTied R EntriesPass left right
  pub passing : SomeTied R EntriesPass left right → SomeTied R EntriesPass first other_first
  pub kept : was ≡ true → now ≡ true
  pub passed : now ≡ true → (was ≡ true) ⊎ SomeTied R EntriesPass first other_first

module _ (R : KeyTuple → KeyTuple → Ordering) (total : IsTotalOrder R)
    (first other_first : Entries) (was : Bool) where
  abbrev pub Now : Entries → Entries → Entries → Bool → Type 0
  Now = Underway R first other_first was

  pub underway-start : IsStrictlySortedBy R (keys_of first)
      → IsStrictlySortedBy R (keys_of other_first) → (whole : Entries) → whole ≡ []
      → Now first other_first whole was
  underway-start up other_up whole none = record {
    ascending = up;
    other_ascending = other_up;
    depth = omega arith;
    joins = λ q more rest join. subst (λ es. JoinEntries R (DoneUnless q) first other_first
        (es ++ rest)) (sym none) join;
    differ = λ some. some;
    differed = λ some. some;
    pass = λ not some. some;
    passing = λ some. some;
    kept = λ yes. yes;
    passed = λ yes. inl yes;
  }

  underway-same : (left right whole left' right' whole' : Entries) (now : Bool) → left ≡ left'
      → right ≡ right' → whole ≡ whole' → Now left right whole now → Now left' right' whole' now
  underway-same left right whole left' right' whole' now same_left same_right same_whole is =
      subst (λ l. Now l right' whole' now) same_left
      (subst (λ r. Now left r whole' now) same_right
      (subst (λ w. Now left right w now) same_whole is))

  module _ (e f : TupleEntry) (es fs whole : Entries) (now : Bool) where
    join-first : (q : Bool) (w : TupleEntry) (rest : Entries)
        → (ByOrder (R e.0 f.0)
        ((w ≡ e) × JoinEntries R (DoneUnless q) es (f ∷ fs) rest)
        ((w.0 ≡ e.0) × DoneUnless q e.1 f.1 w.1 × JoinEntries R (DoneUnless q) es fs rest)
        ((w ≡ f) × JoinEntries R (DoneUnless q) (e ∷ es) fs rest))
        → ((rest : Entries) → JoinEntries R (DoneUnless q) (e ∷ es) (f ∷ fs) rest
        → JoinEntries R (DoneUnless q) first other_first (whole ++ rest))
        → JoinEntries R (DoneUnless q) first other_first ((whole ++ w ∷ []) ++ rest)
    join-first q w rest join joins =
        subst (JoinEntries R (DoneUnless q) first other_first)
        (sym (append_assoc whole (w ∷ []) rest)) (joins (w ∷ rest) join)

    left-moved : R e.0 f.0 ≡ Less → Now (e ∷ es) (f ∷ fs) whole now
        → Now es (f ∷ fs) (whole ++ e ∷ []) now
    left-moved less is = record {
      ascending = sorted_tail R e.0 (keys_of es) is.ascending;
      other_ascending = is.other_ascending;
      depth = is.depth;
      joins = λ q more rest join. join-first q e rest
          (subst (λ o. ByOrder o
          ((e ≡ e) × JoinEntries R (DoneUnless q) es (f ∷ fs) rest)
          ((e.0 ≡ e.0) × DoneUnless q e.1 f.1 e.1 × JoinEntries R (DoneUnless q) es fs rest)
          ((e ≡ f) × JoinEntries R (DoneUnless q) (e ∷ es) fs rest)) (sym less) (refl, join))
          (is.joins q more);
      differ = λ some. tied-less R total BelowDiffer e f es fs is.other_ascending less
          (is.differ some);
      differed = λ some. is.differed (more-left R total BelowDiffer e f es fs some);
      pass = λ not some. tied-less R total EntriesPass e f es fs is.other_ascending less
          (is.pass not some);
      passing = λ some. is.passing (more-left R total EntriesPass e f es fs some);
      kept = is.kept;
      passed = is.passed;
    }

    right-moved : R e.0 f.0 ≡ Greater → Now (e ∷ es) (f ∷ fs) whole now
        → Now (e ∷ es) fs (whole ++ f ∷ []) now
    right-moved greater is = record {
      ascending = is.ascending;
      other_ascending = sorted_tail R f.0 (keys_of fs) is.other_ascending;
      depth = (let h = is.depth in omega arith);
      joins = λ q more rest join. join-first q f rest
          (subst (λ o. ByOrder o
          ((f ≡ e) × JoinEntries R (DoneUnless q) es (f ∷ fs) rest)
          ((f.0 ≡ e.0) × DoneUnless q e.1 f.1 f.1 × JoinEntries R (DoneUnless q) es fs rest)
          ((f ≡ f) × JoinEntries R (DoneUnless q) (e ∷ es) fs rest)) (sym greater) (refl, join))
          (is.joins q more);
      differ = λ some. tied-greater R total BelowDiffer e f es fs is.ascending greater
          (is.differ some);
      differed = λ some. is.differed (more-right R total BelowDiffer e f es fs some);
      pass = λ not some. tied-greater R total EntriesPass e f es fs is.ascending greater
          (is.pass not some);
      passing = λ some. is.passing (more-right R total EntriesPass e f es fs some);
      kept = is.kept;
      passed = is.passed;
    }

    later-false : (next : Bool) → (now ≡ true → next ≡ true) → next ≡ false → now ≡ false
    later-false next more nay = by now refl
      where
        by : (b : Bool) → now ≡ b → now ≡ false
        by true is = absurd (false≢true (sym nay ∙ more is))
        by false is = is

    both-moved : (w : Entry) (next : Bool) → R e.0 f.0 ≡ Equal
        → Merges now next (BelowDiffer e.1 f.1) (EntriesPass e.1 f.1)
        → DoneUnless next e.1 f.1 w
        → Now (e ∷ es) (f ∷ fs) whole now → Now es fs (whole ++ (e.0, w) ∷ []) next
    both-moved w next equal merges done is = record {
      ascending = sorted_tail R e.0 (keys_of es) is.ascending;
      other_ascending = sorted_tail R f.0 (keys_of fs) is.other_ascending;
      depth = (let h = is.depth in omega arith);
      joins = λ q more rest join. join-first q (e.0, w) rest
          (subst (λ o. ByOrder o
          (((e.0, w) ≡ e) × JoinEntries R (DoneUnless q) es (f ∷ fs) rest)
          ((e.0 ≡ e.0) × DoneUnless q e.1 f.1 w × JoinEntries R (DoneUnless q) es fs rest)
          (((e.0, w) ≡ f) × JoinEntries R (DoneUnless q) (e ∷ es) fs rest)) (sym equal)
          (refl, (λ nay. done (still q more nay)), join))
          (is.joins q (λ yes. more (merges.kept yes)));
      differ = λ some. tied-equal R total BelowDiffer e f es fs is.ascending is.other_ascending
          equal merges.alike (is.differ some);
      differed = λ some. is.differed (more-both R total BelowDiffer e f es fs some);
      pass = λ nay some. tied-equal R total EntriesPass e f es fs is.ascending is.other_ascending
          equal (merges.few nay) (is.pass (later-false next merges.kept nay) some);
      passing = λ some. is.passing (more-both R total EntriesPass e f es fs some);
      kept = λ yes. merges.kept (is.kept yes);
      passed = λ yes. elim (merges.passed yes) [
        | inl before ↦ is.passed before
        | inr pass ↦ inr (is.passing (tied-first R total EntriesPass e f es fs equal pass))
      ];
    }
      where
        still : (q : Bool) → (next ≡ true → q ≡ true) → q ≡ false → next ≡ false
        still q more nay = by next refl
          where
            by : (b : Bool) → next ≡ b → next ≡ false
            by true raised = absurd (false≢true (sym nay ∙ more raised))
            by false raised = raised

    module _ (left right : Entries) (is_left : left ≡ e ∷ es) (is_right : right ≡ f ∷ fs)
        (is : Now left right whole now) where
      opened-now : Now (e ∷ es) (f ∷ fs) whole now
      opened-now =
          underway-same left right whole (e ∷ es) (f ∷ fs) whole now is_left is_right refl is

      pub next_left : (rest moved : Entries) → rest ≡ es → moved ≡ whole ++ e ∷ []
          → R e.0 f.0 ≡ Less → Now rest right moved now
      next_left rest moved is_rest is_moved less =
          underway-same es (f ∷ fs) (whole ++ e ∷ []) rest right moved now (sym is_rest)
          (sym is_right) (sym is_moved) (left-moved less opened-now)

      pub next_right : (rest moved : Entries) → rest ≡ fs → moved ≡ whole ++ f ∷ []
          → R e.0 f.0 ≡ Greater → Now left rest moved now
      next_right rest moved is_rest is_moved greater =
          underway-same (e ∷ es) fs (whole ++ f ∷ []) left rest moved now (sym is_left)
          (sym is_rest) (sym is_moved) (right-moved greater opened-now)

      pub next_both : (w : Entry) (next : Bool) (rest other moved : Entries) → rest ≡ es
          → other ≡ fs → moved ≡ whole ++ (e.0, w) ∷ [] → R e.0 f.0 ≡ Equal
          → Merges now next (BelowDiffer e.1 f.1) (EntriesPass e.1 f.1)
          → DoneUnless next e.1 f.1 w → Now rest other moved next
      next_both w next rest other moved is_rest is_other is_moved equal merges done =
          underway-same es fs (whole ++ (e.0, w) ∷ []) rest other moved next (sym is_rest)
          (sym is_other) (sym is_moved) (both-moved w next equal merges done opened-now)

      pub both_differ : R e.0 f.0 ≡ Equal → BelowDiffer e.1 f.1
          → SomeTied R BelowDiffer first other_first
      both_differ equal differ =
          let here = opened-now in
          here.differed (tied-first R total BelowDiffer e f es fs equal differ)

  -- ---- one list has ended

  join-ended : (Both : Entry → Entry → Entry → Type 0) (left right : Entries)
      → (left ≡ []) ⊎ (right ≡ []) → JoinEntries R Both left right (left ++ right)
  join-ended Both left right (inl none) =
      subst (λ l. JoinEntries R Both l right (l ++ right)) (sym none)
      (join-nothing_left R Both right)
  join-ended Both left right (inr none) =
      subst (λ r. JoinEntries R Both left r (left ++ r)) (sym none)
      (subst (JoinEntries R Both left []) (sym (append-nil left)) (join-nothing_right R Both left))

  module _ (left right whole : Entries) (now : Bool) (is : Now left right whole now)
      (none : (left ≡ []) ⊎ (right ≡ [])) where
    pub all_joined : (all : Entries) → all ≡ (whole ++ left) ++ right
        → JoinEntries R (DoneUnless now) first other_first all
    all_joined all same =
        subst (JoinEntries R (DoneUnless now) first other_first)
        (sym (same ∙ append_assoc whole left right))
        (is.joins now (λ yes. yes) (left ++ right) (join-ended (DoneUnless now) left right none))

    pub all_merged : Merges was now (SomeTied R BelowDiffer first other_first)
        (SomeTied R EntriesPass first other_first)
    all_merged = record {
      alike = λ some. none-tied R total BelowDiffer left right none (is.differ some);
      few = λ nay some. none-tied R total EntriesPass left right none (is.pass nay some);
      kept = is.kept;
      passed = is.passed;
    }
