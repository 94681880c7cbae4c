mod Register
