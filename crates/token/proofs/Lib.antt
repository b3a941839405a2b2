pub mod LengthByBytesSteps
