use Rattle.fixed_points.proofs.PointLaws.{tells_fixed_points, fixed_points_stay}
use Rattle.fixed_points.proofs.laws.fixed_point_laws.Goals as goal

pub returns-clause-tells : goal.returns-clause-tells
returns-clause-tells c = tells_fixed_points

pub returns-clause-stay : goal.returns-clause-stay
returns-clause-stay c = fixed_points_stay
