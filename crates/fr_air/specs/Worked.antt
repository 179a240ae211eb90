-- How node 3 stands in the worked run in which it listens to node 1 in double cycle 1.
use Rattle.std.specs.Prelude.{◌≡◌, pos, Some, None, [], ◌∷◌}
use Rattle.fr_base.specs.declared.state.Outcome.TheVariants.{Within}
use Rattle.fr_history.specs.Standing.{following_nodes}
use Rattle.fr_history.specs.Worked.{after_4, after_5, after_6, after_8, joined_run, on_a, two_after}
use Rattle.fr_air.specs.Listeners.{catches_after, listening_nodes}
use Rattle.fr_air.specs.Nodes.{outcomes_after}
use Rattle.fr_air.specs.NextStanding.{beginning_nodes, joining_nodes, staying_nodes}

-- it listens behind two cycles, has caught the even frame behind three, on channel A, begins behind four, goes on behind six,
-- and joins behind eight, where neither of its terms was cut or missing
pub record NodeThreeStands : Type 0 where
  pub listens : listening_nodes joined_run (two_after 2) ≡ on_a 3 ∷ []
  pub catches :
      catches_after joined_run (two_after 3) 3 1
      ≡ record { even_a = Some (pos 400_480_000_000); even_b = None; odd_a = None; odd_b = None }
  pub begins : beginning_nodes joined_run after_4 ≡ on_a 3 ∷ []
  pub stays : staying_nodes joined_run after_6 (following_nodes joined_run after_5) ≡ on_a 3 ∷ []
  pub steady : outcomes_after joined_run after_8 3 ≡ Some (Within, Within)
  pub joins : joining_nodes joined_run after_8 ≡ on_a 3 ∷ []
