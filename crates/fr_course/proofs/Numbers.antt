-- What the types of a scale and of how nodes measure say of their values.
use Rattle.std.proofs.Common.{◌≡◌, subst, ap}
use Rattle.fr_course.specs.Measures.{IsMeasuring, Measuring}
use Rattle.fr_course.specs.Scales.{IsReadingScale, Scale}

-- the numbers are those of the fields that were opened
pub scale_is : {inside value : Scale} → inside ≡ value → IsReadingScale inside → IsReadingScale value
scale_is same is = subst IsReadingScale same is

pub drift_are : {inside value : Scale} → inside ≡ value → inside.drift ≡ value.drift
drift_are same = ap (λ (scale : Scale). scale.drift) same

pub macros_are : {inside value : Scale} → inside ≡ value → inside.macros ≡ value.macros
macros_are same = ap (λ (scale : Scale). scale.macros) same

pub correction_are : {inside value : Scale} → inside ≡ value → inside.correction ≡ value.correction
correction_are same = ap (λ (scale : Scale). scale.correction) same

pub length_from_are : {inside value : Scale} → inside ≡ value → inside.length_from ≡ value.length_from
length_from_are same = ap (λ (scale : Scale). scale.length_from) same

pub length_to_are : {inside value : Scale} → inside ≡ value → inside.length_to ≡ value.length_to
length_to_are same = ap (λ (scale : Scale). scale.length_to) same

pub change_are : {inside value : Scale} → inside ≡ value → inside.change ≡ value.change
change_are same = ap (λ (scale : Scale). scale.change) same

pub micro_from_are : {inside value : Scale} → inside ≡ value → inside.micro_from ≡ value.micro_from
micro_from_are same = ap (λ (scale : Scale). scale.micro_from) same

pub micro_to_are : {inside value : Scale} → inside ≡ value → inside.micro_to ≡ value.micro_to
micro_to_are same = ap (λ (scale : Scale). scale.micro_to) same

pub measuring_is : {inside value : Measuring} → inside ≡ value → IsMeasuring inside → IsMeasuring value
measuring_is same is = subst IsMeasuring same is

pub shortest_are : {inside value : Measuring} → inside ≡ value → inside.shortest ≡ value.shortest
shortest_are same = ap (λ (m : Measuring). m.shortest) same

pub longest_are : {inside value : Measuring} → inside ≡ value → inside.longest ≡ value.longest
longest_are same = ap (λ (m : Measuring). m.longest) same

pub damping_are : {inside value : Measuring} → inside ≡ value → inside.damping ≡ value.damping
damping_are same = ap (λ (m : Measuring). m.damping) same

pub arrival_error_are : {inside value : Measuring} → inside ≡ value → inside.arrival_error ≡ value.arrival_error
arrival_error_are same = ap (λ (m : Measuring). m.arrival_error) same

pub rate_error_are : {inside value : Measuring} → inside ≡ value → inside.rate_error ≡ value.rate_error
rate_error_are same = ap (λ (m : Measuring). m.rate_error) same
