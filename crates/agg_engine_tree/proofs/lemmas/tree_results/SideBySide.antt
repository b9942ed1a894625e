-- The results of several nodes side by side, added one after another.
use Rattle.std.proofs.Common.{◌≡◌, ℕ, List, [], ◌∷◌, ◌++◌, None, inl, inr, ◌⊎◌, refl, sym}
use Rattle.std.proofs.Common.{Option, ap, ◌∙◌, subst, append_assoc, arith}
use Rattle.std.specs.Prelude.{IsSome}
use Rattle.std.specs.List.{AllByRecursion, Contains}
use Rattle.std.specs.Map.{keys_of}
use Rattle.std.proofs.lemmas.List.Elements.{All-append, All-contains, All-from_recursion, All-nil}
use Rattle.std.proofs.lemmas.List.Elements.{Contains-append_cases, Contains-append_left}
use Rattle.std.proofs.lemmas.List.Elements.{Contains-append_right}
use Rattle.agg_values.specs.Names.{value_of}
use Rattle.agg_segment.specs.Query.{matches}
use Rattle.agg_segment.specs.Segment.{documents_at}
use Rattle.agg_segment.specs.declared.query.QueryTree.{QueryTree}
use Rattle.agg_request_tree.specs.Request.{Request}
use Rattle.agg_request_tree.specs.declared.aggregation.Aggregation.{Aggregation}
use Rattle.agg_request_tree.proofs.Lists.{All-from_Contains, Contains-here}
use Rattle.agg_results.specs.intermediate_results.Intermediate.{Held as Results}
use Rattle.agg_results.specs.StandsFor.{StandsTo}
use Rattle.agg_engine_tree.specs.segment_context.Context.{ArePlansOf, Meaning}
use Rattle.agg_engine_tree.specs.segment_context.Plan.{Plan, Plans}
use Rattle.agg_engine_tree.specs.declared.segment_context.context.PerRequestAggSegCtx.{
  PerRequestAggSegCtx,
}
use Rattle.agg_engine_tree.specs.declared.segment_context.node.AggKind.TheVariants as kind
use Rattle.agg_engine_tree.specs.collector_tree.Tree.{AllFit, AllFor, AreFlushed, AreOf, Fits, Held}
use Rattle.agg_engine_tree.specs.collector_tree.Tree.{IsFlushed, IsFor, IsOf, helds_of}
use Rattle.agg_engine_tree.specs.tree_results.Names.{HasNamesApart, HaveNamesApart, names_in}
use Rattle.agg_engine_tree.specs.tree_results.Names.{names_of}
use Rattle.agg_engine_tree.specs.tree_results.Results.{Adds, EachStands, HasOnlyMore, HoldsAll}
use Rattle.agg_engine_tree.specs.tree_results.Results.{IsSameBut, IsTrail, MayAdd}
use Rattle.agg_engine_tree.specs.tree_results.Results.{NodeStands, docs_taken}
use Rattle.agg_engine_tree.proofs.lemmas.tree_results.NamedNodes.{names-asked, names-own}

module _ (ctx : PerRequestAggSegCtx) where
  -- the names of nodes in a list
  abbrev names : List Held → List (List ℕ)
  names hs = names_in ctx (helds_of hs)

  names-append : (hs ks : List Held) → names (hs ++ ks) ≡ names hs ++ names ks
  names-append [] ks = refl
  names-append (h ∷ hs) ks =
      ap (λ ns. names_of ctx h ++ ns) (names-append hs ks)
      ∙ sym (append_assoc (names_of ctx h) (names hs) (names ks))

  -- a name of a node in the middle is one of all
  here-named : (hs : List Held) (h : Held) (ks : List Held) (name : List ℕ)
      → Contains (names_of ctx h) name → Contains (names (hs ++ h ∷ ks)) name
  here-named hs h ks name has =
      subst (λ ns. Contains ns name) (sym (names-append hs (h ∷ ks)))
      (Contains-append_right (names hs) (names (h ∷ ks)) name
      (Contains-append_left (names_of ctx h) (names ks) name has))

  -- which none before it has
  apart-before : (hs : List Held) (h : Held) (ks : List Held)
      → HaveNamesApart ctx (helds_of (hs ++ h ∷ ks)) → (name : List ℕ)
      → Contains (names_of ctx h) name → ¬ (Contains (names hs) name)
  apart-before [] h ks apart name has before = absurd (omega (arith, before.1))
  apart-before (k ∷ hs) h ks apart name has before =
      elim (Contains-append_cases (names_of ctx k) (names hs) name before) [
        | inl first ↦
            All-contains (λ n. ¬ (Contains (names (hs ++ h ∷ ks)) n)) (names_of ctx k) name
            apart.0 first (here-named hs h ks name has)
        | inr later ↦ apart-before hs h ks apart.2 name has later
      ]

  module _ (parent : Option ℕ) where
    -- nodes added their results one after another
    abbrev pub AddInTurn : List Held → Results → Results → Type 0
    AddInTurn [] old new = new ≡ old
    AddInTurn (h ∷ hs) old new =
        (between : Results) × Adds ctx h parent old between × AddInTurn hs between new

    -- one more
    pub add-more : (hs : List Held) (h : Held) (old between new : Results)
        → AddInTurn hs old between → Adds ctx h parent between new
        → AddInTurn (hs ++ h ∷ []) old new
    add-more [] h old between new before adds =
        (new, subst (λ r. Adds ctx h parent r new) before adds, refl)
    add-more (k ∷ hs) h old between new before adds =
        (before.0, before.1, add-more hs h before.0 between new before.2 adds)

    -- all other names have what they had
    others-same : (hs : List Held) (old new : Results) → AddInTurn hs old new
        → IsSameBut (names hs) old new
    others-same [] old new added name apart = ap (value_of name) added
    others-same (h ∷ hs) old new added name apart =
        others-same hs added.0 new added.2 name
        (λ has. apart (Contains-append_right (names_of ctx h) (names hs) name has))
        ∙ added.1.others name
        (λ has. apart (Contains-append_left (names_of ctx h) (names hs) name has))

    names-known : (hs : List Held) (old new : Results) → AddInTurn hs old new
        → HasOnlyMore (names hs) old new
    names-known [] old new added =
        All-from_Contains (λ n. Contains (keys_of old) n ⊎ Contains [] n) (keys_of new)
        (λ n has. inl (subst (λ r. Contains (keys_of r) n) added has))
    names-known (h ∷ hs) old new added =
        All-from_Contains (λ n. Contains (keys_of old) n ⊎ Contains (names (h ∷ hs)) n)
        (keys_of new) (λ n has. known n
        (All-contains (λ n. Contains (keys_of added.0) n ⊎ Contains (names hs) n) (keys_of new) n
        (names-known hs added.0 new added.2) has))
      where
        first : (n : List ℕ) → Contains (keys_of old) n ⊎ Contains (names_of ctx h) n
            → Contains (keys_of old) n ⊎ Contains (names (h ∷ hs)) n
        first n (inl was) = inl was
        first n (inr own) = inr (Contains-append_left (names_of ctx h) (names hs) n own)

        known : (n : List ℕ) → Contains (keys_of added.0) n ⊎ Contains (names hs) n
            → Contains (keys_of old) n ⊎ Contains (names (h ∷ hs)) n
        known n (inl before) =
            first n (All-contains (λ n. Contains (keys_of old) n ⊎ Contains (names_of ctx h) n)
            (keys_of added.0) n added.1.known before)
        known n (inr later) = inr (Contains-append_right (names_of ctx h) (names hs) n later)

    -- under the name of each stands its result
    each-stands : (hs : List Held) (old new : Results) → HaveNamesApart ctx (helds_of hs)
        → AddInTurn hs old new → AllByRecursion (λ h. NodeStands ctx h parent new) hs
    each-stands [] old new apart added = tt
    each-stands (h ∷ hs) old new apart added = (
      λ meaning taken trail name a plan asked is depth.
          let own = subst (λ ns. Contains ns name)
          (sym (names-own meaning ctx name a plan h asked is)) (Contains-here name []) in
          let kept = others-same hs added.0 new added.2 name
          (All-contains (λ n. ¬ (Contains (names hs) n)) (names_of ctx h) name apart.0 own) in
          subst (StandsTo matches depth a
          (documents_at meaning.segment (docs_taken parent taken))) (sym kept)
          (added.1.one meaning taken trail name a plan asked is depth),
      each-stands hs added.0 new apart.2 added.2,
    )

    -- the names of all are held
    all-held : (hs : List Held) (old new : Results) → HaveNamesApart ctx (helds_of hs)
        → AddInTurn hs old new → HoldsAll (names hs) new
    all-held [] old new apart added = All-nil (λ n. IsSome (value_of n new))
    all-held (h ∷ hs) old new apart added =
        All-append (λ n. IsSome (value_of n new)) (names_of ctx h) (names hs)
        (All-from_Contains (λ n. IsSome (value_of n new)) (names_of ctx h) (λ n has.
        subst (λ r. IsSome r) (sym (others-same hs added.0 new added.2 n
        (All-contains (λ n. ¬ (Contains (names hs) n)) (names_of ctx h) n apart.0 has)))
        (All-contains (λ n. IsSome (value_of n added.0)) (names_of ctx h) n added.1.held has)))
        (all-held hs added.0 new apart.2 added.2)

    -- ---- as a group

    module _ (meaning : Meaning) (new : Results) (taken : List (ℕ × ℕ)) (depth : ℕ) where
      abbrev Stands : List ℕ × Aggregation QueryTree → Type 0
      Stands a = StandsTo matches depth a.1
          (documents_at meaning.segment (docs_taken parent taken)) (value_of a.0 new)

      group-each : (request : Request QueryTree) (plans : Plans) (hs : List Held) (visits : ℕ)
          → ((h : Held) (visits : ℕ) → IsFor meaning ctx h taken visits
          → IsTrail meaning ctx h parent taken)
          → ArePlansOf meaning ctx request plans → AreOf plans (helds_of hs)
          → AllFor meaning ctx (helds_of hs) taken visits
          → AllByRecursion (λ h. NodeStands ctx h parent new) hs → AllByRecursion Stands request
      group-each [] plans hs visits trail asked are right stand = tt
      group-each (a ∷ request) Plans.none hs visits trail asked are right stand = absurd asked
      group-each (a ∷ request) (Plans.more plan plans) [] visits trail asked are right stand =
          absurd are
      group-each (a ∷ request) (Plans.more plan plans) (h ∷ hs) visits trail asked are right
          stand = (
            stand.0 meaning taken (trail h right.0 right.2) a.0 a.1 plan asked.0 are.0 depth,
            group-each request plans hs right.1 trail asked.1 are.1 right.3 stand.1,
          )

    -- under the name of each of a group stands its result
    each-added : (hs : List Held) (old new : Results) → HaveNamesApart ctx (helds_of hs)
        → AddInTurn hs old new → EachStands ctx (Held.group (helds_of hs)) parent new
    each-added hs old new apart added meaning taken trail request plans asked are depth =
        let one_by_one : (h : Held) (visits : ℕ) → IsFor meaning ctx h taken visits
        → IsTrail meaning ctx h parent taken =
        λ h visits right. record {
          meant = trail.meant;
          visits = visits;
          right = right;
          within = trail.within;
        } in
        All-from_recursion (Stands meaning new taken depth) request
        (group-each meaning new taken depth request plans hs trail.visits one_by_one asked are
        trail.right (each-stands hs old new apart added))

    -- the results of a group are added
    pub adds-group : (hs : List Held) (old new : Results) → HaveNamesApart ctx (helds_of hs)
        → AddInTurn hs old new → Adds ctx (Held.group (helds_of hs)) parent old new
    adds-group hs old new apart added = record {
      others = others-same hs old new added;
      known = names-known hs old new added;
      held = all-held hs old new apart added;
      one = λ meaning taken trail name a plan asked is depth. absurd (no_group plan is);
      each = each-added hs old new apart added;
      all = λ none meaning taken trail request plans asked are depth. record {
        each = each-added hs old new apart added meaning taken trail request plans asked are
            depth;
        known = All-from_Contains (Contains (keys_of request)) (keys_of new)
            (λ name has. only meaning new taken depth request plans none asked are name
            (All-contains (λ n. Contains (keys_of old) n ⊎ Contains (names hs) n)
            (keys_of new) name (names-known hs old new added) has));
      };
    }
      where
        no_group : (plan : Plan) → IsOf plan (Held.group (helds_of hs)) → ⊥
        no_group (Plan.node kind.Composite i plans) is = is
        no_group (Plan.node kind.Filter i plans) is = is
        no_group (Plan.node (kind.StatsKind computed) i plans) is = is

        only : (meaning : Meaning) (new : Results) (taken : List (ℕ × ℕ)) (depth : ℕ)
            (request : Request QueryTree) (plans : Plans) → old ≡ []
            → ArePlansOf meaning ctx request plans → AreOf plans (helds_of hs) → (name : List ℕ)
            → Contains (keys_of old) name ⊎ Contains (names hs) name
            → Contains (keys_of request) name
        only meaning new taken depth request plans none asked are name (inl was) =
            let had = subst (λ r. Contains (keys_of r) name) none was in
            absurd (omega (arith, had.1))
        only meaning new taken depth request plans none asked are name (inr own) =
            subst (λ ns. Contains ns name)
            (names-asked meaning ctx request plans (helds_of hs) asked are) own

  -- ---- the next of several

  all-fit : (hs : List Held) (h : Held) (ks : List Held) → AllFit ctx (helds_of (hs ++ h ∷ ks))
      → Fits ctx h
  all-fit [] h ks fit = fit.0
  all-fit (k ∷ hs) h ks fit = all-fit hs h ks fit.1

  all-flushed : (hs : List Held) (h : Held) (ks : List Held)
      → AreFlushed (helds_of (hs ++ h ∷ ks)) → IsFlushed h
  all-flushed [] h ks flushed = flushed.0
  all-flushed (k ∷ hs) h ks flushed = all-flushed hs h ks flushed.1

  all-apart : (hs : List Held) (h : Held) (ks : List Held)
      → HaveNamesApart ctx (helds_of (hs ++ h ∷ ks)) → HasNamesApart ctx h
  all-apart [] h ks apart = apart.1
  all-apart (k ∷ hs) h ks apart = all-apart hs h ks apart.2

  all-right : (meaning : Meaning) (taken : List (ℕ × ℕ)) (hs : List Held) (h : Held)
      (ks : List Held) (visits : ℕ) → AllFor meaning ctx (helds_of (hs ++ h ∷ ks)) taken visits
      → (own : ℕ) × IsFor meaning ctx h taken own
  all-right meaning taken [] h ks visits right = (right.0, right.2)
  all-right meaning taken (k ∷ hs) h ks visits right =
      all-right meaning taken hs h ks right.1 right.3

  -- it may add its results too
  pub may-next : (parent : Option ℕ) (hs : List Held) (h : Held) (ks : List Held)
      (old now : Results) → MayAdd ctx (Held.group (helds_of (hs ++ h ∷ ks))) old
      → AddInTurn parent hs old now → MayAdd ctx h now
  may-next parent hs h ks old now may added =
      let right = all-right may.meaning may.taken hs h ks may.visits may.right in
      record {
        meaning = may.meaning;
        taken = may.taken;
        visits = right.0;
        meant = may.meant;
        right = right.1;
        fits = all-fit hs h ks may.fits;
        flushed = all-flushed hs h ks may.flushed;
        apart = all-apart hs h ks may.apart;
        absent = All-from_Contains (λ name. value_of name now ≡ None) (names_of ctx h)
            (λ name has. others-same parent hs old now added name
            (apart-before hs h ks may.apart name has)
            ∙ All-contains (λ name. value_of name old ≡ None) (names (hs ++ h ∷ ks)) name
            may.absent (here-named hs h ks name has));
      }
