-- No number of a contact is a NaN, so each has its bits.
use Rattle.query.proofs.Numbers.{has_numbers}
use Rattle.query.proofs.contact_line.number_bits.Goals as goal

pub float_to_bits-result : goal.float_to_bits-result
float_to_bits-result g c = (has_numbers c.args.contact.now).p1.x

pub float_to_bits-result-2 : goal.float_to_bits-result-2
float_to_bits-result-2 g c = (has_numbers c.args.contact.now).p1.y

pub float_to_bits-result-3 : goal.float_to_bits-result-3
float_to_bits-result-3 g c = (has_numbers c.args.contact.now).p1.z

pub float_to_bits-result-4 : goal.float_to_bits-result-4
float_to_bits-result-4 g c = (has_numbers c.args.contact.now).p2.x

pub float_to_bits-result-5 : goal.float_to_bits-result-5
float_to_bits-result-5 g c = (has_numbers c.args.contact.now).p2.y

pub float_to_bits-result-6 : goal.float_to_bits-result-6
float_to_bits-result-6 g c = (has_numbers c.args.contact.now).p2.z

pub float_to_bits-result-7 : goal.float_to_bits-result-7
float_to_bits-result-7 g c = (has_numbers c.args.contact.now).dist
