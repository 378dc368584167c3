use Rattle.std.proofs.Common.{refl}
use Rattle.engine.specs.Formulas.{exact_thrust_factor, exact_flow_of, exact_idle_flow}
use Rattle.engine.specs.Jets.{exact_jet_rise, exact_jet_thrust, exact_jet_consumption}
use Rattle.engine.specs.Turboprops.{exact_propeller_thrust, exact_turboprop_thrust, exact_propeller_consumption, exact_turboprop_consumption}
use Rattle.engine.proofs.examples.exact_values.Goals as goal

pub returns : goal.returns
unfolding exact_thrust_factor exact_flow_of exact_idle_flow exact_jet_rise exact_jet_thrust exact_jet_consumption exact_propeller_thrust exact_turboprop_thrust exact_propeller_consumption exact_turboprop_consumption
returns c =
    record {
      jet =
          record {
            thrust = refl;
            exact_thrust = record { eq = refl };
            nominal = refl;
            exact_nominal = record { eq = refl };
            half_nominal = record { eq = refl };
          };
      turboprop =
          record {
            thrust = refl;
            exact_thrust = record { eq = refl };
            nominal = refl;
            exact_nominal = record { eq = refl };
            idle = refl;
            exact_idle = record { eq = refl };
          };
    }
