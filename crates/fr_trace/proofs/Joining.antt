-- Nodes that join, with one more behind the others.
use Rattle.std.proofs.Common.{◌≡◌, ◌≢◌, inl, inr, ℕ, Bool, true, false, List, [], ◌∷◌, ◌++◌, Option, Some, None, refl, sym, ◌∙◌, arith}
use Rattle.std.specs.Prelude.{◌==◌, ◌||◌, All, IsSome, find, is_none, is_some}
use Rattle.std.specs.List.{list_any}
use Rattle.std.specs.Option.{option_map}
use Rattle.std.proofs.lemmas.Bool.Decides.{nat_tests}
use Rattle.std.proofs.lemmas.List.Elements.{All-cons, All-head, All-nil, All-push, All-tail}
use Rattle.fr_base.specs.declared.channel.Channel.{Channel}
use Rattle.fr_base.specs.declared.channel.Channel.TheVariants as channel
use Rattle.fr_cluster.specs.Questions.{is_common, is_known, own_key}
use Rattle.fr_cluster.specs.Values.{Values}
use Rattle.fr_cluster.specs.declared.join.Join.{Join}
use Rattle.fr_trace.specs.Fits.{TracedJoinIsProper}
use Rattle.fr_trace.specs.Joins.{is_among, join_among}
use Rattle.fr_trace.specs.Reasons.{have_common, joins_wrongly, knows_node_and_reference}
use Rattle.fr_trace.specs.Rows.{IsProperJoinRow}
use Rattle.fr_trace.specs.declared.trace.TracedJoin.{TracedJoin}
use Rattle.fr_trace.proofs.Nodes.{found-last}
use Rattle.fr_trace.proofs.Passing.{both-false, both-true, eq-not, one-true}

eq-no : (a b : ℕ) → a ≢ b → (a == b) ≡ false
eq-no a b ne = grind (arith, nat_tests, ne)

some-of : (o : Option TracedJoin) → option_map (λ j. j.join) o ≡ None → is_some o ≡ false
some-of None e = refl
some-of (Some j) e = absurd (cc e)

none-of : (o : Option TracedJoin) → is_some o ≡ false → option_map (λ j. j.join) o ≡ None
none-of None e = refl
none-of (Some j) e = absurd (cc e)

no-join-of : (o : Option Join) → is_some o ≡ false → o ≡ None
no-join-of None e = refl
no-join-of (Some join) e = absurd (cc e)

-- a node that joins nobody does not with one more that is another
still-none : (joins : List TracedJoin) (j : TracedJoin) (n : ℕ) → join_among joins n ≡ None → j.node ≢ n → join_among (joins ++ j ∷ []) n ≡ None
still-none joins j n none other =
    let before : is_some (find (λ k. k.node == n) joins) ≡ false = some-of (find (λ k. k.node == n) joins) none in
    let here : (j.node == n) ≡ false = eq-no j.node n other in
    none-of (find (λ k. k.node == n) (joins ++ j ∷ [])) (found-last (λ (k : TracedJoin). k.node) n joins j ∙ (λ i. before i || here i))

-- none of them has a node as its reference
no-reference : (n : ℕ) (joins : List TracedJoin) → list_any (λ other. other.join.reference == n) joins ≡ false → All (λ other. n ≢ other.join.reference) joins
no-reference n [] e = All-nil (λ other. n ≢ other.join.reference)
no-reference n (k ∷ joins) e =
    let both = both-false (k.join.reference == n) (list_any (λ other. other.join.reference == n) joins) e in
    All-cons (λ other. n ≢ other.join.reference) k joins (λ same. eq-not k.join.reference n both.0 (sym same)) (no-reference n joins both.1)

module _ (p : Values) (named : List ℕ) (joins : List TracedJoin) (j : TracedJoin) where
  -- one that joins properly still does
  still-proper : (k : TracedJoin) → TracedJoinIsProper p named joins k → j.node ≢ k.join.reference → TracedJoinIsProper p named (joins ++ j ∷ []) k
  still-proper k proper other = record {
    known = proper.known;
    correct = proper.correct;
    known_reference = proper.known_reference;
    correct_reference = proper.correct_reference;
    key = proper.key;
    other = proper.other;
    stays = still-none joins j k.join.reference proper.stays other;
    channel = proper.channel;
    common = proper.common;
    double = proper.double;
  }

  all-still : (some : List TracedJoin) → All (TracedJoinIsProper p named joins) some → All (λ k. j.node ≢ k.join.reference) some → All (TracedJoinIsProper p named (joins ++ j ∷ [])) some
  all-still [] proper other = All-nil (TracedJoinIsProper p named (joins ++ j ∷ []))
  all-still (k ∷ some) proper other =
      All-cons (TracedJoinIsProper p named (joins ++ j ∷ [])) k some
      (still-proper k (All-head (TracedJoinIsProper p named joins) k some proper) (All-head (λ (k : TracedJoin). j.node ≢ k.join.reference) k some other))
      (all-still some (All-tail (TracedJoinIsProper p named joins) k some proper) (All-tail (λ (k : TracedJoin). j.node ≢ k.join.reference) k some other))

  pub join-pushed : All (TracedJoinIsProper p named joins) joins → knows_node_and_reference p j ≡ true → joins_wrongly p named joins j ≡ false → have_common p j ≡ true → IsProperJoinRow j
      → All (TracedJoinIsProper p named (joins ++ j ∷ [])) (joins ++ j ∷ [])
  join-pushed all known right common proper =
      let a : Bool = j.join.reference == j.node in
      let b : Bool = is_among named j.node in
      let c : Bool = is_among named j.join.reference in
      let d : Bool = is_none (own_key p j.join.reference) in
      let e : Bool = is_some (join_among joins j.join.reference) in
      let f : Bool = list_any (λ other. other.join.reference == j.node) joins in
      let five = both-false ((((a || b) || c) || d) || e) f right in
      let four = both-false (((a || b) || c) || d) e five.0 in
      let three = both-false ((a || b) || c) d four.0 in
      let two = both-false (a || b) c three.0 in
      let one = both-false a b two.0 in
      let both = both-true (is_known p j.node) (is_known p j.join.reference) known in
      let other : j.join.reference ≢ j.node = eq-not j.join.reference j.node one.0 in
      let stays = still-none joins j j.join.reference (no-join-of (join_among joins j.join.reference) four.1) (λ same. other (sym same)) in
      let channels = common-one common in
      let low = proper.double_to in
      All-push (TracedJoinIsProper p named (joins ++ j ∷ [])) joins j (all-still joins all (no-reference j.node joins five.1)) (record {
        known = both.0;
        correct = one.1;
        known_reference = both.1;
        correct_reference = two.1;
        key = has-key (own_key p j.join.reference) three.1;
        other = other;
        stays = stays;
        channel = channels.0;
        common = channels.1;
        double = omega (arith, low);
      })
    where
      has-key : (o : Option ℕ) → is_none o ≡ false → IsSome o
      has-key None e = absurd (cc e)
      has-key (Some key) e = refl

      common-one : have_common p j ≡ true → (ch : Channel) × (is_common p j.node j.join.reference ch ≡ true)
      common-one e = elim (one-true (is_common p j.node j.join.reference channel.A) (is_common p j.node j.join.reference channel.B) e) [
        | inl on_a ↦ (channel.A, on_a)
        | inr on_b ↦ (channel.B, on_b)
      ]
